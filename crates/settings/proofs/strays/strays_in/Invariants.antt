use Rattle.std.proofs.Common.{◌≡◌, ◌++◌, map}
use Rattle.toml.specs.View.{members_view, table_view}
use Rattle.settings.specs.Strays.{named, strays_in}
use Rattle.settings.proofs.strays.strays_in.Given as goal

-- what was found so far and what is left
abbrev pub invariant-loop-name : goal.invariant-loop-name
invariant-loop-name l = map named l.strays.items ++ strays_in (members_view l.name-iterator) ≡ strays_in (table_view l.table)
