-- How a question that was played ended.
use Rattle.std.proofs.Common.{ℕ, ◌≡◌, sym, Bool, Option, List}
use Rattle.terms_prelude.specs.Terms.{Size}
use Rattle.chances.specs.declared.table.Table.{Table}
use Rattle.chances.specs.declared.ends.End.{End}
use Rattle.chances.specs.Cores.{AreVerdicts}
use Rattle.chances.specs.Ends.{end_of}
use Rattle.chances.specs.Tables.{HasEnd, IsPlayed, cores_of}

-- it ended as the verdicts of its table say
pub ended : (size : Size) (liars seed : ℕ) (end : End) (table : Table) (verdicts : List (Option (ℕ × Bool)))
    → IsPlayed size liars seed table → AreVerdicts (cores_of table) verdicts → end_of verdicts ≡ end → HasEnd size liars seed end
ended size liars seed end table verdicts played are is = record {
  table = table;
  verdicts = verdicts;
  played = played;
  are = are;
  ends = sym is;
}
