-- The code that the program ends with.
use Rattle.std.specs.Prelude.{◌≡◌, ℕ, Result, MatchResult}
use Rattle.std.specs.Process.{exit_status}
use Rattle.std.specs.declared.process.ExitCode.{ExitCode}
use Rattle.troubles.specs.Faults.{fault_status}
use Rattle.troubles.specs.declared.trouble.Failure.{Failure}

-- the code that the program ends with: the status of what was done, or of the fault
abbrev pub IsCodeOf : Result ℕ Failure → ExitCode → Type 0
IsCodeOf ended code = MatchResult ended (λ status. exit_status code ≡ status) (λ failure. exit_status code ≡ fault_status failure.fault)
