use Rattle.std.proofs.Common.{rules, ℕ, ◌≡◌, ◌<◌, ◌≤◌, ◌+◌, ◌∷◌, ◌∙◌, inl, max, List, Option, length, drop, option_map, refl, sym, ap, subst, arith}
use Rattle.std.proofs.lemmas.List.{drop_all, drop_more}
use Rattle.std.specs.declared.alloc.Global.{Global}
use Rattle.std.specs.declared.vec.Vec.{Vec}
use Rattle.asking.proofs.Telling.{few_of, highest}
use Rattle.asking.specs.Statings.{HasStatusOfAll, reply_texts, wants_ready}
use Rattle.asking.proofs.stating.tell_all.Goals as goal

pub loop-reply-preserved : goal.loop-reply-preserved
loop-reply-preserved g c =
    let replies : List (Option (Vec ℕ Global)) = c.args.replies.now in
    let ready = wants_ready c.args.form in
    let i = c.loop-reply.reply-index in
    let item = c.reply-item.result in
    let text = option_map (λ sent. sent.items) item in
    let told = c.in_ok-told.told in
    let within : i < length replies = search (rules, c.loop-reply-test.true) in
    let next : drop i replies ≡ item ∷ drop (i + 1) replies =
    drop_more replies i item within ∙ ap (λ (r : Option (Vec ℕ Global)). r ∷ drop (i + 1) replies) (sym c.reply-item.is) in
    let few = few_of ready text told c.in_ok-told.ensures.status in
    let most : c.max-status.result ≡ max c.loop-reply.status told = search (rules, c.max-status.ensures) in (
      omega (arith, c.loop-reply.invariant.0, few, most),
      λ others are.
          let all = c.loop-reply.invariant.1 (max told others)
          (subst (λ (rs : List (Option (Vec ℕ Global))). HasStatusOfAll ready (reply_texts rs) (max told others)) (sym next)
          (highest ready text (reply_texts (drop (i + 1) replies)) told others c.in_ok-told.ensures.status are)) in
          let same : max c.loop-reply.status (max told others) ≡ max c.max-status.result others = omega (arith, most) in
          subst (λ (n : ℕ). HasStatusOfAll ready (reply_texts replies) n) same all,
    )

pub returns-clause-status : goal.returns-clause-status
returns-clause-status g c =
    let replies : List (Option (Vec ℕ Global)) = c.args.replies.now in
    let ready = wants_ready c.args.form in
    let end = drop_all c.loop-reply.reply-index replies (search (rules, c.loop-reply-test.false)) in
    let all = c.loop-reply.invariant.1 0 (subst (λ (rs : List (Option (Vec ℕ Global))). HasStatusOfAll ready (reply_texts rs) 0) (sym end) (inl (refl, tt))) in
    let same : max c.loop-reply.status 0 ≡ c.loop-reply.status = omega arith in
    subst (λ (n : ℕ). HasStatusOfAll ready (reply_texts replies) n) same all
