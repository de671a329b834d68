-- What ends an audit.
use Rattle.std.specs.Prelude.{◌≡◌, ◌≢◌, ◌⊎◌}
use Rattle.std.specs.IoError.{error_kind}
use Rattle.std.specs.declared.io.Error.{Error}
use Rattle.std.specs.declared.io.ErrorKind.TheVariants.{OutOfMemory}
use Rattle.transcripts.specs.declared.fault.AuditFault.{AuditFault}
use Rattle.transcripts.specs.declared.fault.AuditFault.TheVariants as fault

-- the fault that an error of a stream is: want of memory, or the stream's own
abbrev pub IsAuditFaultOf : Error → AuditFault → Type 0
IsAuditFaultOf error ends =
    ((ends ≡ fault.Memory) ⊎ (ends ≡ fault.Stream))
    × (error_kind error ≡ OutOfMemory → ends ≡ fault.Memory)
    × (error_kind error ≢ OutOfMemory → ends ≡ fault.Stream)
