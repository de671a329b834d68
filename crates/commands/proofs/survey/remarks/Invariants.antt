use Rattle.std.proofs.Common.{◌≡◌, ◌++◌, drop, string_bytes}
use Rattle.commands.specs.Surveys.{remarks_from}
use Rattle.commands.proofs.survey.remarks.Given as goal

-- the lines so far, and those of the words that are left
abbrev pub invariant-loop-member : goal.invariant-loop-member
invariant-loop-member l =
    string_bytes l.text ++ remarks_from l.member (drop l.member l.fn.words) l.fn.decision ≡ remarks_from 0 l.fn.words l.fn.decision
