use Rattle.asking.proofs.Proving.{more_none, more_taken}
use Rattle.asking.proofs.hearsay.Audit.gather.Goals as goal

pub hearing-init : goal.hearing-init
hearing-init g c = more_none _

pub hearing-preserved : goal.hearing-preserved
hearing-preserved g c = more_taken _ _ _ _ _ _ c.hearing.invariant c.in_ok-take.ensures.proofs
