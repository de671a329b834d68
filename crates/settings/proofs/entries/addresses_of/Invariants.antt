use Rattle.std.proofs.Common.{take}
use Rattle.toml.specs.View.{items_view}
use Rattle.settings.specs.Settings.{AreAddresses}
use Rattle.settings.proofs.entries.addresses_of.Given as goal

-- those so far are the addresses of the values so far
abbrev pub invariant-loop-value : goal.invariant-loop-value
invariant-loop-value l = AreAddresses (items_view (take l.value-index l.values)) l.addresses.items
