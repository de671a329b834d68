use Rattle.std.proofs.Common.{◌++◌, ◌∷◌, [], List, Option, option_map, ℕ, subst, sym}
use Rattle.commands.specs.declared.closing.Told.{Told}
use Rattle.asking.proofs.Telling.{texts_more, told_more}
use Rattle.asking.specs.Statings.{AreTold, reply_texts}
use Rattle.asking.proofs.stating.words_of.Goals as goal

pub loop-reply-preserved : goal.loop-reply-preserved
loop-reply-preserved c =
    let before = c.loop-reply.words.items in
    let all = c.loop-reply.yielded in
    let reply = c.in-Some.reply in
    let word = c.told_of.result in
    let are = told_more (reply_texts all) before (option_map (λ sent. sent.items) reply) word c.loop-reply.invariant c.told_of.ensures in
    subst (λ (words : List Told). AreTold (reply_texts (all ++ reply ∷ [])) words) (sym c.in_ok-push.ensures.items)
    (subst (λ (texts : List (Option (List ℕ))). AreTold texts (before ++ word ∷ [])) (sym (texts_more all reply)) are)
