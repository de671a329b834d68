use Rattle.std.proofs.Common.{rules, ◌≡◌, ◌∙◌, ◌+◌, ◌<◌, ◌∷◌, ◌++◌, ℕ, List, codes, get_or, length, take, take_all, refl, sym, ap, subst, arith}
use Rattle.std.specs.Fmt.{HasWritten, decimal}
use Rattle.std.proofs.Output.{has_written_append, has_written_of_eq}
use Rattle.terms_prelude.specs.Terms.{Statement}
use Rattle.transcripts.specs.Lines.{head_line, pair_line}
use Rattle.transcripts.proofs.Texts.{behind, behind_more}
use Rattle.transcripts.proofs.text.TranscriptTextDisplay.fmt.Goals as goal

pub returns-clause-writes : goal.returns-clause-writes
returns-clause-writes g c plain ok =
    let pairs : List (ℕ × Statement) = c.args.self.now.pairs.now in
    let head : List ℕ = head_line c.args.self.now.question c.args.self.now.bit (length pairs) in
    let same : codes "transcript " ++ (decimal c.args.self.now.question ++ 32 ∷ (c.bit_words-bit.result.now ++ decimal (length pairs))) ≡ head =
    ap (λ (w : List ℕ). codes "transcript " ++ (decimal c.args.self.now.question ++ 32 ∷ (w ++ decimal (length pairs)))) c.bit_words-bit.ensures in
    let first : HasWritten g.W.Write.write_str_gives c.args.f.now head c.write.new.self =
    has_written_of_eq g.W.Write.write_str_gives c.args.f.now _ head c.write.new.self same (c.in_ok-write.ensures.writes plain refl) in
    let all : take c.loop-pair.pair-index pairs ≡ pairs = take_all c.loop-pair.pair-index pairs (omega (arith, c.loop-pair-test.false)) in
    let others : HasWritten g.W.Write.write_str_gives c.write.new.self (behind pairs) c.loop-pair.f =
    subst (λ (ps : List (ℕ × Statement)). HasWritten g.W.Write.write_str_gives c.write.new.self (behind ps) c.loop-pair.f) all (c.loop-pair.invariant first.plain) in
    has_written_append g.W.Write.write_str_gives c.args.f.now head c.write.new.self (behind pairs) c.loop-pair.f first others

pub loop-pair-preserved : goal.loop-pair-preserved
loop-pair-preserved g c plain =
    let pairs : List (ℕ × Statement) = c.args.self.now.pairs.now in
    let i = c.loop-pair.pair-index in
    let before = c.loop-pair.invariant plain in
    let at : c.pair-item.result ≡ get_or pairs i c.pair-item.result = search (rules, c.pair-item.is) in
    has_written_of_eq g.W.Write.write_str_gives c.write.new.self (behind (take i pairs) ++ (10 ∷ pair_line c.pair-item.result)) (behind (take (i + 1) pairs)) c.write-in-loop-pair.new.self
    (behind_more pairs i c.pair-item.result at c.loop-pair-test.true)
    (has_written_append g.W.Write.write_str_gives c.write.new.self (behind (take i pairs)) c.loop-pair.f (10 ∷ pair_line c.pair-item.result) c.write-in-loop-pair.new.self before
    (c.in_ok-write-2.ensures.writes before.plain refl))
