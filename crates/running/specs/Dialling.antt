-- Why a member can't be reached, in words.
use Rattle.std.specs.Prelude.{ℕ, List, codes}
use Rattle.running.specs.declared.dialling.DialFault.{DialFault}
use Rattle.running.specs.declared.dialling.DialFault.TheVariants.{Refused, NoAnswer, NoRoute, Failed}

abbrev pub dial_fault_text : DialFault → List ℕ
dial_fault_text Refused = codes "refused"
dial_fault_text NoAnswer = codes "no answer"
dial_fault_text NoRoute = codes "no route"
dial_fault_text Failed = codes "failed"
