use Rattle.std.proofs.Common.{◌≡◌, length}
use Rattle.std.specs.List.{AllByRecursion}
use Rattle.commands.proofs.Disks.{IsNew}
use Rattle.commands.proofs.simulate.empty_disks.Given as goal

abbrev pub invariant-loop : goal.invariant-loop
invariant-loop l = record {
  new : AllByRecursion IsNew l.disks.items;
  count : length l.disks.items ≡ l.counter;
}
