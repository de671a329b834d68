-- The bytes are put, their range is listed, and what lay under them is kept.
use Rattle.std.proofs.Common.{◌≡◌, ℕ, List, ◌++◌, ◌∷◌, [], ◌+◌, ◌-◌, min, length, take, drop, ◌∙◌, ap, rules}
use Rattle.std.proofs.lemmas.List.{with_items_is, take_rest}
use Rattle.disk.specs.Model.{overwritten}
use Rattle.disk.specs.System.{placed}
use Rattle.disk.specs.Under.{laid_back}
use Rattle.disk.proofs.Under.{grown, still_under, kept_is}
use Rattle.disk.proofs.content.Content.write.Goals as goal

pub returns-clause-ok : goal.returns-clause-ok
returns-clause-ok c =
    let old = c.args.self.now in
    let at = c.args.at in
    let bytes = c.args.bytes.now in
    let inside : c.min-inside.result ≡ min (length bytes) (length old.seen.items - at) = search (rules, c.min-inside.ensures, c.len.ensures) in
    let covered : c.min-covered.result ≡ min (length bytes) (old.synced - at) = search (rules, c.min-covered.ensures, c.saturating_sub.ensures) in
    let longer : c.extend_from_slice.new.self.items ≡ old.seen.items ++ drop c.min-inside.result bytes =
    c.in_ok-extend_from_slice.ensures.items ∙ ap (λ (l : List ℕ). old.seen.items ++ l) (take_rest bytes c.min-inside.result) in
    let put_is : c.put_over.new.file ≡ overwritten old.seen.items at bytes =
    c.put_over.ensures ∙ (λ i. overwritten ((c.deref_mut.ensures.value ∙ longer) i) at (take c.min-inside.result bytes)) ∙ grown old.seen.items bytes at c.min-inside.result c.requires inside in
    let seen = with_items_is c.extend_from_slice.new.self c.put_over.new.file (search (rules, c.put_over.ensures)) ∙ put_is in
    let under : c.keep.new.under.items ≡ old.under.items ++ placed at (take (at + c.min-covered.result - at) (drop at (old.seen.items ++ drop c.min-inside.result bytes))) =
    c.keep.ensures ∙ (λ i. c.in_ok-reserve.ensures.items i ++ placed at (take (at + c.min-covered.result - at) (drop at ((c.deref.ensures.value ∙ longer) i)))) in
    let synced =
    (λ i. laid_back (under i) (take old.synced (seen i)))
    ∙ still_under old.seen.items bytes _ old.synced at c.min-covered.result old.under.items old.within c.requires covered (kept_is old.seen.items (drop c.min-inside.result bytes) old.synced at c.min-covered.result bytes old.within c.requires covered) in
    let written : c.push_reserved.new.self.items ≡ old.written.items ++ (at, length bytes) ∷ [] =
    c.push_reserved.ensures.items ∙ ap (λ (l : List (ℕ × ℕ)). l ++ (at, length bytes) ∷ []) c.in_ok-reserve-2.ensures.items in
    λ i. record { seen = seen i; synced = synced i; written = written i }
