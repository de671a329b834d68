-- What ends the answer to a line: a write failed, or memory was refused.
use Rattle.std.specs.Prelude.{◌≡◌, ◌≢◌, ◌⊎◌}
use Rattle.std.specs.IoError.{error_kind}
use Rattle.std.specs.declared.io.Error.{Error}
use Rattle.std.specs.declared.io.ErrorKind.TheVariants.{OutOfMemory}
use Rattle.hearing.specs.declared.fault.HearFault.{HearFault}
use Rattle.hearing.specs.declared.fault.HearFault.TheVariants as fault

abbrev pub IsOfStream : HearFault → Type 0
IsOfStream ends = (ends ≡ fault.Memory) ⊎ (ends ≡ fault.Stream)

-- the fault that an error of a stream is: want of memory, or the stream's own
abbrev pub IsHearFaultOf : Error → HearFault → Type 0
IsHearFaultOf error ends =
    ((ends ≡ fault.Memory) ⊎ (ends ≡ fault.Stream))
    × (error_kind error ≡ OutOfMemory → ends ≡ fault.Memory)
    × (error_kind error ≢ OutOfMemory → ends ≡ fault.Stream)
