-- The lines of a log.
use Rattle.std.specs.Prelude.{ℕ, Bool, false, true, List, [], ◌++◌, Option, Some, None, codes, nat_lt, if◌then◌else◌}
use Rattle.std.specs.Fmt.{decimal}
use Rattle.std.specs.Net.Text.{ip_text}
use Rattle.std.specs.declared.net.ip_addr.IpAddr.{IpAddr}
use Rattle.wire.specs.declared.message.Version.{Version}
use Rattle.wire.specs.declared.message.Version.TheVariants as version
use Rattle.wire.specs.declared.message.WireFault.{WireFault}
use Rattle.wire.specs.declared.message.WireFault.TheVariants.{BadLength, BadType, BadKind, BadPlace, BadValue, BadHello, BadCount}
use Rattle.links.specs.declared.ends.LinkEnd.{LinkEnd}
use Rattle.links.specs.declared.ends.LinkEnd.TheVariants as cause
use Rattle.running.specs.Callers.{caller_text}
use Rattle.running.specs.Dialling.{dial_fault_text}
use Rattle.running.specs.declared.callers.Caller.{Caller}
use Rattle.running.specs.declared.refusals.Refusal.{Refusal}
use Rattle.running.specs.declared.refusals.Refusal.TheVariants as refusal
use Rattle.running.specs.declared.refusals.RefusalCount.{RefusalCount}
use Rattle.running.specs.declared.events.LogEvent.{LogEvent}
use Rattle.running.specs.declared.events.LogEvent.TheVariants.{Ready, LinkUp, LinkDown, LinkUpTo, LinkUpAhead, LinkDownTo, Refused, ClientClosed, Decided, Stopped, Missed, End}

-- what is wrong with bytes that begin no frame
abbrev pub fault_text : WireFault → List ℕ
fault_text BadLength = codes "broken BadLength"
fault_text BadType = codes "broken BadType"
fault_text BadKind = codes "broken BadKind"
fault_text BadPlace = codes "broken BadPlace"
fault_text BadValue = codes "broken BadValue"
fault_text BadHello = codes "broken BadHello"
fault_text BadCount = codes "broken BadCount"

-- what the line of a link that comes up says of its version
abbrev pub version_text : Version → List ℕ
version_text version.One = codes " version 1"
version_text version.Two = codes ""

-- what ended a link
abbrev pub cause_text : LinkEnd → List ℕ
cause_text cause.Ended = codes "ended"
cause_text cause.Lost = codes "lost"
cause_text (cause.Broken fault) = fault_text fault
cause_text cause.OutOfOrder = codes "out-of-order"
cause_text cause.Stranger = codes "stranger"
cause_text cause.Busy = codes "busy"
cause_text cause.Stopped = codes "stopped"
cause_text cause.Memory = codes "memory"

-- the digit of a bit
abbrev pub bit_number : Bool → ℕ
bit_number false = 0
bit_number true = 1

-- who it said it was, if it said so
abbrev pub said_text : Option Caller → List ℕ
said_text None = []
said_text (Some caller) = caller_text caller

-- how often it came, behind what came
abbrev pub times_text : ℕ → List ℕ
times_text count = if nat_lt 1 count then codes ", x" ++ decimal count else []

-- a refusal, who was refused last, and how often
abbrev pub refused_text : Refusal → Option Caller → ℕ → List ℕ
refused_text (refusal.From host end) caller count =
    codes "refused from " ++ (ip_text host ++ (codes " " ++ (cause_text end ++ (said_text caller ++ times_text count))))
refused_text (refusal.By peer) caller count = codes "link-to " ++ (decimal peer ++ (codes " refused" ++ times_text count))
refused_text (refusal.Unreachable peer fault) caller count =
    codes "link-to " ++ (decimal peer ++ (codes " unreachable: " ++ (dial_fault_text fault ++ times_text count)))
refused_text (refusal.Unsteady peer) caller count = codes "links of " ++ (decimal peer ++ (codes " come and go" ++ times_text count))
refused_text refusal.Threadless caller count = codes "thread refused" ++ times_text count
refused_text refusal.Crowded caller count = codes "follower refused: too many follow" ++ times_text count
refused_text (refusal.Stalled host) caller count =
    codes "follower from " ++ (ip_text host ++ (codes " closed: took nothing for 10 s" ++ times_text count))

abbrev pub refusal_text : RefusalCount → List ℕ
refusal_text refused = refused_text refused.refusal refused.caller refused.count

-- where a client was that was closed for another, and for how many seconds it was silent
abbrev pub place_text : ℕ → ℕ → List ℕ
place_text slot silent =
    codes " at place " ++ (decimal slot ++ (codes " closed for another: silent for " ++ (decimal silent ++ codes " s")))

abbrev pub closed_text : Option IpAddr → ℕ → ℕ → List ℕ
closed_text (Some host) slot silent = codes "client from " ++ (ip_text host ++ place_text slot silent)
closed_text None slot silent = codes "client" ++ place_text slot silent

-- an event's line, without its end
abbrev pub log_text : LogEvent → List ℕ
log_text (Ready me) = codes "ready member " ++ decimal me
log_text (LinkUp peer version) = codes "link-up from " ++ (decimal peer ++ version_text version)
log_text (LinkDown peer end) = codes "link-down from " ++ (decimal peer ++ (codes " " ++ cause_text end))
log_text (LinkUpTo peer version) = codes "link-up to " ++ (decimal peer ++ version_text version)
log_text (LinkUpAhead peer count version) = codes "link-up to " ++ (decimal peer ++ (codes " ahead " ++ (decimal count ++ version_text version)))
log_text (LinkDownTo peer end) = codes "link-down to " ++ (decimal peer ++ (codes " " ++ cause_text end))
log_text (Refused refused) = refusal_text refused
log_text (ClientClosed host slot silent) = closed_text host slot silent
log_text (Decided question bit) = codes "decided " ++ (decimal question ++ (codes " " ++ decimal (bit_number bit)))
log_text Stopped = codes "stopped"
log_text (Missed count) = codes "missed " ++ decimal count
log_text End = codes "end"
