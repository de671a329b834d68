-- What a report says of an epoch that runs.
use Rattle.std.specs.Prelude.{ℕ, ◌≡◌, ◌==◌, ◌&&◌, ◌||◌, Bool, true, false, not, if◌then◌else◌, List, Option, filter, find, position, nat_le}
use Rattle.epochs.specs.declared.board.Report.{Report}
use Rattle.epochs.specs.declared.running.Running.{Running}
use Rattle.epochs.specs.declared.running.TheConstants.{QUIET, COMPLETE, RESTING}
use Rattle.epochs.specs.Asking.{tells_next}

-- the epoch has just begun to run: its member doesn't listen yet, and it doesn't rest
pub record IsBeginning (epoch : ℕ) (one : Running) : Type 0 where
  pub epoch_is : one.epoch ≡ epoch
  pub silent : one.is_ready ≡ false
  pub progress : one.progress ≡ 0
  pub quiet : one.quiet ≡ 0
  pub awake : one.rests ≡ false

-- for how many seconds the progress is that of the report
abbrev pub quiet_after : Report → ℕ → ℕ → ℕ
quiet_after report progress quiet = if progress == report.progress then tells_next quiet else 0

-- nothing of the epoch is open, and nothing happens in it or all its questions are decided
abbrev pub is_resting : Report → ℕ → Bool
is_resting report quiet = not report.is_undone && (report.is_complete || nat_le RESTING quiet)

-- nothing has happened for so long that the epoch may be done
abbrev pub is_quiet : Report → ℕ → Bool
is_quiet report quiet = nat_le (if report.is_complete then COMPLETE else QUIET) quiet

-- an epoch that runs, once the report is noted
abbrev pub noted : Report → Running → Running
noted report one =
    let quiet = quiet_after report one.progress one.quiet in
    record one { progress = report.progress; quiet = quiet; rests = is_resting report quiet }

-- the same, once its member listens
abbrev pub readied : Running → Running
readied one = record one { is_ready = true }

-- the place of an epoch among those that run
abbrev pub place_in : List Running → ℕ → Option ℕ
place_in running epoch = position (λ one. one.epoch == epoch) running

-- the epoch among those that run
abbrev pub running_in : List Running → ℕ → Option Running
running_in running epoch = find (λ one. one.epoch == epoch) running

-- those of other epochs
abbrev pub running_elsewhere : ℕ → List Running → List Running
running_elsewhere epoch running = filter (λ one. not (one.epoch == epoch)) running
