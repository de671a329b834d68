-- What a call of a stream makes of what is told of it.
use Rattle.links.specs.Told.{Told, has_read, has_written, has_failed, has_ended, has_sent}
use Rattle.links.specs.declared.trace.StreamCall.{StreamCall}
use Rattle.links.specs.declared.trace.StreamCall.TheVariants as call

abbrev pub told_after : Told → StreamCall → Told
told_after told (call.Read bytes) = has_read told bytes.now
told_after told (call.Wrote bytes) = has_written told bytes.now
told_after told call.Failed = has_failed told
told_after told call.Ended = has_ended told
told_after told (call.Sent items) = has_sent told items.now
