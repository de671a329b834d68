-- Why a question wasn't played to its end.
use Rattle.questions.specs.declared.answer.CoreFault.{CoreFault}
use Rattle.questions.specs.declared.answer.CoreFault.TheVariants as core
use Rattle.chances.specs.declared.fault.PlayFault.{PlayFault}
use Rattle.chances.specs.declared.fault.PlayFault.TheVariants as faults

-- the fault that a core's fault makes
abbrev pub of_core : CoreFault → PlayFault
of_core core.NoSuchQuestion = faults.Core core.NoSuchQuestion
of_core core.NoSuchMember = faults.Core core.NoSuchMember
of_core core.Memory = faults.Memory
of_core core.Failed = faults.Core core.Failed
