-- What a deed makes of an account.
use Rattle.disk.specs.System.{Done, with_told, with_read, with_written, with_synced}
use Rattle.disk.specs.declared.account.SystemCall.{SystemCall}
use Rattle.disk.specs.declared.account.SystemCall.TheVariants as deed

abbrev pub done_after : Done → SystemCall → Done
done_after done (deed.Told n) = with_told done n
done_after done (deed.Read at bytes) = with_read done at bytes.now
done_after done (deed.Wrote at bytes) = with_written done at bytes.now
done_after done deed.Synced = with_synced done
