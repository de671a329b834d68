use Rattle.std.proofs.Common.{◌≡◌, ◌<◌, ℕ, sym, ap, subst, arith}
use Rattle.terms_prelude.specs.Terms.{Header}
use Rattle.journal.specs.Readers.{journal_header}
use Rattle.test_threads.proofs.at_once.start.Goals as goal

pub append-requires-clause-well_formed : goal.append-requires-clause-well_formed
append-requires-clause-well_formed g c =
    let same : (journal_header c.in_ok-journal.journal).size.questions ≡ c.args.header.now.size.questions = ap (λ (h : Header). h.size.questions) c.in_ok-journal.ensures.opened.header_is in
    (record { asked = subst (λ (n : ℕ). 0 < n) (sym same) c.requires; from_one = omega arith; to_last = omega arith }, tt)
