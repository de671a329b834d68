-- Until when a client waits.
use Rattle.std.specs.Prelude.{Option}
use Rattle.std.specs.declared.time.Duration.{Duration}
use Rattle.asking.specs.declared.desks.Deadline.{Deadline}

-- how long it waits in all, if that is limited
unfoldable pub total_time : Deadline → Option Duration
total_time deadline = deadline.total
