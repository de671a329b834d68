use Rattle.std.proofs.Common.{◌≡◌, ◌<◌, ◌++◌, ◌∷◌, [], ℕ, Bool, List, length, get_or, sym, ap, subst, ◌∙◌, arith, length-append, append_assoc, append-nil, rules, false, true, Err, IsErrOf, is_some}
use Rattle.std.specs.Vec.Iter.{into_iter_items}
use Rattle.terms_prelude.specs.Terms.{Header}
use Rattle.disk.specs.declared.memory.MemDisk.{MemDisk}
use Rattle.disk.specs.Memory.{fuse_left}
use Rattle.sim.specs.declared.faults.SimFault.TheVariants as faults
use Rattle.sim.specs.Words.{Post, IsReady, IsCreated, mine, among, fused_in}
use Rattle.sim.proofs.Opening.{pushed, fused_front, fused_behind, none_left}
use Rattle.sim.proofs.cluster.posts.Goals as goal

pub loop-disk-preserved : goal.loop-disk-preserved
loop-disk-preserved c =
    let at = c.loop-disk in
    let disk = c.in-Some.disk in
    let steps : into_iter_items at.disk-iterator ≡ disk ∷ into_iter_items c.next.new.self = c.in-Some.ensures.steps.0 in
    let items : c.push.new.self.items ≡ at.posts.items ++ c.in_ok-new.field-0 ∷ [] = c.in_ok-push.ensures.items in
    let long = ap (λ (l : List Post). length l) items in
    let here : at.me ≡ length at.yielded = at.invariant.me ∙ at.invariant.count in
    let P : ℕ → Post → Type 0 = λ p post.
    IsReady post × IsCreated (mine c.args.size p) (among c.args.liars.now p) (fused_in (at.yielded ++ disk ∷ []) p) post in
    let old : (p : ℕ) (d : Post) → p < length at.posts.items → P p (get_or at.posts.items p d) = λ p d l.
    let was = at.invariant.each p d l in (
      was.0,
      subst (λ (b : Bool). IsCreated (mine c.args.size p) (among c.args.liars.now p) b (get_or at.posts.items p d))
          (sym (fused_front at.yielded (disk ∷ []) p (omega (arith, at.invariant.count, l)))) was.1,
    ) in
    let fuse : fused_in (at.yielded ++ disk ∷ []) at.me ≡ is_some (fuse_left disk) =
    ap (λ (k : ℕ). fused_in (at.yielded ++ disk ∷ []) k) here ∙ fused_behind at.yielded disk [] in
    let one : P at.me c.in_ok-new.field-0 = (
      c.in_ok-new.ensures.ready,
      subst (λ (h : Header). IsCreated h (among c.args.liars.now at.me) (fused_in (at.yielded ++ disk ∷ []) at.me) c.in_ok-new.field-0) c.in-Some-new.ensures.some
          (subst (λ (b : Bool). IsCreated c.in-Some-new.header b (fused_in (at.yielded ++ disk ∷ []) at.me) c.in_ok-new.field-0) c.contains.ensures.value
          (subst (λ (b : Bool). IsCreated c.in-Some-new.header c.contains.result b c.in_ok-new.field-0) (sym fuse) c.in_ok-new.ensures.created)),
    ) in
    record {
      me = omega (arith, long, length-append at.posts.items (c.in_ok-new.field-0 ∷ []), at.invariant.me);
      count = omega (arith, long, length-append at.posts.items (c.in_ok-new.field-0 ∷ []), length-append at.yielded (disk ∷ []), at.invariant.count);
      all = append_assoc at.yielded (disk ∷ []) _ ∙ rw (← steps) at.invariant.all;
      left =
          let was = at.invariant.left in
          let gone = c.in-Some.ensures.steps.1 in
          let short = ap length steps in
          omega arith;
      each = subst (λ (l : List Post). (p : ℕ) (d : Post) → p < length l → P p (get_or l p d)) (sym items)
          (pushed P at.posts.items c.in_ok-new.field-0 (subst (λ (k : ℕ). P k c.in_ok-new.field-0) at.invariant.me one) old);
    }

pub returns-clause-each : goal.returns-clause-each
returns-clause-each c =
    let at = c.loop-disk in
    let none = c.in-None.ensures.steps in
    let empty : into_iter_items at.disk-iterator ≡ [] = none_left _ (sym at.invariant.left ∙ none.0) in
    let all : at.yielded ≡ c.args.disks.items = sym (append-nil at.yielded) ∙ rw empty at at.invariant.all ∙ c.into_iter-disk-iterator.ensures.into_iter_gives.0 in
    subst (λ (l : List MemDisk). (p : ℕ) (d : Post) → p < length at.posts.items
    → IsReady (get_or at.posts.items p d) × IsCreated (mine c.args.size p) (among c.args.liars.now p) (fused_in l p) (get_or at.posts.items p d)) all at.invariant.each

pub returns-in_err-new-clause-device : goal.returns-in_err-new-clause-device
returns-in_err-new-clause-device c h =
    let at = c.loop-disk in
    let disk = c.in-Some.disk in
    let steps : into_iter_items at.disk-iterator ≡ disk ∷ into_iter_items c.next.new.self = c.in-Some.ensures.steps.0 in
    let here : at.me ≡ length at.yielded = at.invariant.me ∙ at.invariant.count in
    let all : at.yielded ++ disk ∷ into_iter_items c.next.new.self ≡ c.args.disks.items = rw (← steps) at.invariant.all ∙ c.into_iter-disk-iterator.ensures.into_iter_gives.0 in
    let long = ap (λ (l : List MemDisk). length l) all in
    let device : IsErrOf {T = Post} (Err c.in_err-new.field-0.0) faults.Device = search (rules, h) in
    let told : (c.contains.result ≡ false) × (is_some (fuse_left disk) ≡ true) = c.in_err-new.ensures.device device in (
      at.me,
      omega (arith, long, length-append at.yielded (disk ∷ into_iter_items c.next.new.self), here),
      sym c.contains.ensures.value ∙ told.0,
      sym (ap (λ (l : List MemDisk). fused_in l at.me) all) ∙ ap (λ (k : ℕ). fused_in (at.yielded ++ disk ∷ into_iter_items c.next.new.self) k) here
          ∙ fused_behind at.yielded disk (into_iter_items c.next.new.self) ∙ told.1,
    )
