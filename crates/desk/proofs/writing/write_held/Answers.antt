use Rattle.std.proofs.Common.{ℕ, ◌≤◌, List, length, subst}
use Rattle.links.specs.Told.{BreaksOff}
use Rattle.desk.proofs.Holding.{loses_held}
use Rattle.desk.proofs.writing.write_held.Goals as goal

pub returns-in-Err-clause-err : goal.returns-in-Err-clause-err
returns-in-Err-clause-err g c = (
  c.in-Err.ensures.err.0,
  loses_held (g.S.Stream.told c.args.stream.now) (g.S.Stream.told c.write_bytes.new.stream) c.args.held.now.items
      (subst (λ (l : List ℕ). length l ≤ 4096) c.as_slice.ensures.value c.as_slice.ensures.fits)
      (subst (λ (l : List ℕ). BreaksOff (g.S.Stream.told c.args.stream.now) (g.S.Stream.told c.write_bytes.new.stream) l) c.as_slice.ensures.value c.in-Err.ensures.err.1),
)
