use Rattle.std.proofs.Common.{◌==◌, ◌∙◌, ℕ, List, get_or, sym, ap, arith}
use Rattle.terms_prelude.specs.Terms.{Decided}
use Rattle.engine.specs.Texts.{record_bytes}
use Rattle.engine.proofs.Seven.{decision_from, bit_of}
use Rattle.engine.proofs.records.decided_of.Goals as goal

pub returns-clause-some : goal.returns-clause-some
returns-clause-some c =
    let b : List ℕ = c.args.bytes.now in (
      (omega (arith, c.if-round-eq0.false), omega (arith, c.if-round-gt-LAST_ROUND.false)),
      decision_from b c.told-bytes c.fits-bytes (get_or b 6 0 == 1) c.requires c.if-origin-ne0.false c.if-step-ne0.false (bit_of (get_or b 6 0) (omega (arith, c.if-bit-gt1.false)))
          ∙ ap (λ (q : ℕ). record_bytes (Decided q (get_or b 4 0) (get_or b 6 0 == 1))) (sym c.from_be_bytes-question.ensures),
    )
