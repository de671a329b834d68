-- What a call makes of the calls that were answered.
use Rattle.std.specs.Prelude.{List, ◌∷◌}
use Rattle.disk.specs.Supposed.{Reply}
use Rattle.disk.specs.declared.reply.DiskReply.{DiskReply}
use Rattle.disk.specs.declared.reply.DiskReply.TheVariants as given

abbrev pub replies_after : List Reply → DiskReply → List Reply
replies_after before (given.Told n) = Reply.Told n ∷ before
replies_after before (given.Gave at bytes) = Reply.Gave at bytes.now ∷ before
replies_after before (given.Wrote at bytes) = Reply.Wrote at bytes.now ∷ before
replies_after before (given.Lost at n) = Reply.Lost at n ∷ before
replies_after before given.Synced = Reply.Synced ∷ before
replies_after before given.Refused = Reply.Refused ∷ before
