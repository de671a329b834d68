use Rattle.std.proofs.Common.{◌≡◌, drop, nat_lt}
use Rattle.std.specs.List.{find}
use Rattle.settings.specs.Clients.{count_of, first_twice}
use Rattle.settings.proofs.client_entries.first_twice.Given as goal

-- the first of those that are left is that of all
abbrev pub invariant-loop-desk : goal.invariant-loop-desk
invariant-loop-desk l = find (λ desk. nat_lt 1 (count_of l.desks desk)) (drop l.desk-index l.desks) ≡ first_twice l.desks
