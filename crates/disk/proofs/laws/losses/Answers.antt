use Rattle.std.proofs.Common.{refl}
use Rattle.disk.specs.Model.{after_write}
use Rattle.disk.proofs.Torn.{longer, untorn, torn}
use Rattle.disk.proofs.laws.losses.Goals as goal

pub returns-clause-anything : goal.returns-clause-anything
returns-clause-anything c s file long same = record { no_shorter = long; same_outside = same }

pub returns-clause-longer : goal.returns-clause-longer
returns-clause-longer c = longer

pub returns-clause-torn : goal.returns-clause-torn
returns-clause-torn c s at bytes others file len may = (
  untorn s (after_write s at bytes) at _ file refl refl may,
  torn s (after_write s at bytes) at _ file refl refl may others len,
)

pub returns-clause-torn_once_failed : goal.returns-clause-torn_once_failed
returns-clause-torn_once_failed c old new at n others file failed len may = (
  untorn old new at n file failed.synced failed.written may,
  torn old new at n file failed.synced failed.written may others len,
)

pub returns-clause-elsewhere : goal.returns-clause-elsewhere
returns-clause-elsewhere c old new at n k failed within beside = failed.elsewhere k within beside
