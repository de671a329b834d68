use Rattle.std.proofs.Common.{◌≡◌, ◌<◌, ◌-◌, ◌∙◌, ◌++◌, ◌∷◌, ℕ, List, drop, length, sym, ap, subst, rules}
use Rattle.std.proofs.lemmas.Result.{err_from_is_err_and}
use Rattle.terms_prelude.specs.Terms.{Record}
use Rattle.journal.specs.Words.{TakesBatches, batches_bytes}
use Rattle.journal.proofs.Batching.{left_behind, breaks_nowhere, rest_at, nothing_left}
use Rattle.journal.proofs.batches.Batches.next.Goals as goal

pub returns-in_err-behind-clause-fault : goal.returns-in_err-behind-clause-fault
returns-in_err-behind-clause-fault c left has =
    let p = err_from_is_err_and c.from_residual.result c.from_residual.ensures.1 in
    let it = c.args.self.now in
    rw (p.1, p.2) (breaks_nowhere it.header _ has.behind left c.in_err-behind.field-0.0 has.lawful.size
    (subst (λ (l : List ℕ). TakesBatches it.header l left (0 ∷ has.behind)) (sym (c.rest_from.ensures ∙ ap (λ (l : List ℕ). drop it.at l) c.deref.ensures.value)) has.takes)
    c.in_err-behind.ensures.refused)

pub returns-in-Some-clause-some : goal.returns-in-Some-clause-some
returns-in-Some-clause-some c left has _ =
    let it = c.args.self.now in
    let bytes : List ℕ = it.bytes.items in
    let behind : List ℕ = c.in-Some.behind.now in
    let rest_is : c.rest_from.result.now ≡ drop it.at bytes = c.rest_from.ensures ∙ ap (λ (l : List ℕ). drop it.at l) c.deref.ensures.value in
    let added : (x : List Record) × TakesBatches it.header c.rest_from.result.now x behind × (c.read_batch.new.records.items ≡ c.clear.new.self.items ++ x) = search (rules, c.in_ok-behind.ensures.batch, c.in-Some.is) in
    let shorter : length behind < length c.rest_from.result.now = search (rules, c.in_ok-behind.ensures.shorter, c.in-Some.is) in
    let takes : TakesBatches it.header (drop it.at bytes) added.0 behind = subst (λ (l : List ℕ). TakesBatches it.header l added.0 behind) rest_is added.1 in
    let later = left_behind it.header (drop it.at bytes) behind has.behind left added.0 has.lawful.size has.takes takes in
    let at = rest_at bytes (batches_bytes takes.batches) behind it.at takes.is (subst (λ (l : List ℕ). length behind < length l) rest_is shorter) in
    let given : c.read_batch.new.records.items ≡ added.0 = added.2 ∙ ap (λ (l : List Record). l ++ added.0) c.clear.ensures.items in
    let all : c.len.result ≡ length bytes = search (rules, c.len.ensures) in (
      later.0,
      later.1 ∙ ap (λ (l : List Record). l ++ later.0) (sym given),
      record {
        lawful = has.lawful;
        behind = has.behind;
        takes = subst (λ (l : List ℕ). TakesBatches it.header l later.0 (0 ∷ has.behind)) (sym (ap (λ (n : ℕ). drop (n - length behind) bytes) all ∙ at)) later.2;
      },
    )

pub returns-in-None-clause-none : goal.returns-in-None-clause-none
returns-in-None-clause-none c left has _ =
    let it = c.args.self.now in
    let shut : (rest : List ℕ) × (c.rest_from.result.now ≡ 0 ∷ rest) = search (rules, c.in_ok-behind.ensures.end, c.in-None.is) in
    nothing_left it.header (drop it.at it.bytes.items) has.behind shut.0 left has.lawful.size has.takes (sym (c.rest_from.ensures ∙ ap (λ (l : List ℕ). drop it.at l) c.deref.ensures.value) ∙ shut.1)
