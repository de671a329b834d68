use Rattle.std.proofs.Common.{◌≡◌, ◌∙◌, ◌+◌, ◌<◌, ◌^◌, ◌↔◌, ℕ, Bool, None, Some, Option, Err, List, ◌∷◌, length, map, sym, ap, subst, arith, rules, IsTrue}
use Rattle.terms_prelude.specs.Terms.{Statement}
use Rattle.numerals.specs.Lines.{lines_of}
use Rattle.questions.specs.Audits.{IsProof}
use Rattle.transcripts.specs.Lines.{head_line, pair_line}
use Rattle.transcripts.specs.Reading.{IsBadAt}
use Rattle.transcripts.specs.declared.fault.AuditFault.TheVariants as fault
use Rattle.transcripts.specs.declared.reading.Head.{Head}
use Rattle.transcripts.proofs.Beginnings.{bad_empty, bad_head, bad_rest}
use Rattle.transcripts.proofs.audit.is_proof.Goals as goal

pub returns-then-is_empty-clause-line : goal.returns-then-is_empty-clause-line
returns-then-is_empty-clause-line c = λ number is.
    let same : 1 ≡ number = cc in
    let none : length c.args.text.now ≡ 0 = search rules in
    subst (λ (n : ℕ). IsBadAt c.args.size c.args.text.now n) same (bad_empty c.args.size c.recall.ensures c.args.text.now none)

pub returns-in_default-clause-line : goal.returns-in_default-clause-line
returns-in_default-clause-line c = λ number is.
    let same : 1 ≡ number = cc in
    subst (λ (n : ℕ). IsBadAt c.args.size c.args.text.now n) same
    (bad_head c.args.size c.recall.ensures c.args.text.now c.cut_line.result.0.now c.cut_line.result.1.now c.cut_line.ensures
    (λ q b count asked small spelled. none (record { question = q; bit = b; count = count }) (c.in_default.ensures.exact q b count asked small spelled)))
  where
    none : (head : Head) → ◌≡◌ {A = Option Head} None (Some head) → ⊥
    none head e = absurd (cc e)

pub returns-in-Err-clause-line : goal.returns-in-Err-clause-line
returns-in-Err-clause-line c = λ number is.
    let same : c.in-Err.fault ≡ fault.Line number = cc in
    bad_rest c.args.size c.recall.ensures c.args.text.now c.cut_line.result.1.now c.in-Some.head.question c.in-Some.head.bit c.in-Some.head.count number
    c.in-Some.ensures.some.0 c.in-Some.ensures.counted (c.cut_line.ensures ∙ ap (λ (l : List ℕ). l ∷ lines_of c.cut_line.result.1.now) c.in-Some.ensures.some.1)
    (c.in-Err.ensures.line number (ap Err same))

pub returns-clause-ok : goal.returns-clause-ok
returns-clause-ok c =
    let pairs : List (ℕ × Statement) = c.in-Ok.pairs.items in
    let small : length pairs < 2 ^ 64 = omega (arith, c.in-Ok.ensures.counted, c.in-Some.ensures.counted) in
    let lines : lines_of c.args.text.now ≡ head_line c.in-Some.head.question c.in-Some.head.bit (length pairs) ∷ map pair_line pairs =
    c.cut_line.ensures ∙ (λ i. c.in-Some.ensures.some.1 i ∷ c.in-Ok.ensures.lines i)
    ∙ ap (λ (n : ℕ). head_line c.in-Some.head.question c.in-Some.head.bit n ∷ map pair_line pairs) (sym c.in-Ok.ensures.counted) in (
      record { question = c.in-Some.head.question; bit = c.in-Some.head.bit; pairs = pairs },
      record { fits = record { asked = c.in-Some.ensures.some.0; counted = small; each = c.in-Ok.ensures.fits }; lines = lines },
      subst (λ (l : List (ℕ × Statement)). IsTrue c.in_ok-audit.field-0 ↔ IsProof c.args.size c.in-Some.head.question c.in-Some.head.bit l) c.deref.ensures.value c.in_ok-audit.ensures,
    )
