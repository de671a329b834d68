use Rattle.std.proofs.Common.{take}
use Rattle.numerals.specs.Sentences.{texts}
use Rattle.settings.specs.Clusters.{AreInRow}
use Rattle.settings.proofs.cluster.addresses_from.Given as goal

-- the hosts so far have their links
abbrev pub invariant-loop-host : goal.invariant-loop-host
invariant-loop-host l = AreInRow l.first (texts (take l.host-index l.hosts)) l.addresses.items
