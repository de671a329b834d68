-- What a deed makes of a past.
use Rattle.disk.specs.Replay.{FilePast, begun, listed}
use Rattle.disk.specs.Replay.Call.{Still, Wrote, Failed, Synced}
use Rattle.disk.specs.declared.history.Deed.{Deed}
use Rattle.disk.specs.declared.history.Deed.TheVariants as deed

abbrev pub past_after : FilePast → Deed → FilePast
past_after past (deed.Began file) = begun file.now
past_after past deed.Looked = listed past Still
past_after past (deed.Wrote at bytes) = listed past (Wrote at bytes.now)
past_after past (deed.Failed at n) = listed past (Failed at n)
past_after past deed.Synced = listed past Synced
