use Rattle.std.proofs.Common.{◌≡◌, ◌++◌, map}
use Rattle.toml.specs.View.{members_view, table_view}
use Rattle.settings.specs.Strays.{inside, named}
use Rattle.settings.proofs.strays.push_inside.Given as goal

-- the keys so far and those that are left
abbrev pub invariant-loop-name : goal.invariant-loop-name
invariant-loop-name l = map named l.strays.items ++ inside (members_view l.name-iterator) ≡ map named l.initial.strays.items ++ inside (table_view l.table)
