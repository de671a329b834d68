-- The lines and the objects of a log.
use Rattle.std.specs.Prelude.{ℕ, ◌≡◌, List, [], ◌∷◌, ◌++◌, Option, Some, None, OnOk, Result, codes}
use Rattle.std.specs.Fmt.{decimal}
use Rattle.std.specs.Net.Text.{ip_text}
use Rattle.std.specs.declared.net.ip_addr.IpAddr.{IpAddr}
use Rattle.json.specs.Token.{Token, begin_object, end_object, key, string, number, null}
use Rattle.json.specs.Print.{print}
use Rattle.json.specs.Written.{Written}
use Rattle.wire.specs.declared.message.Version.{Version}
use Rattle.wire.specs.declared.message.Version.TheVariants as version
use Rattle.links.specs.declared.ends.LinkEnd.{LinkEnd}
use Rattle.running.specs.Events.{bit_number, cause_text, log_text}
use Rattle.running.specs.Dialling.{dial_fault_text}
use Rattle.running.specs.declared.dialling.DialFault.{DialFault}
use Rattle.running.specs.declared.callers.Caller.{Caller}
use Rattle.running.specs.declared.callers.Difference.{Difference}
use Rattle.running.specs.declared.callers.Difference.TheVariants as difference
use Rattle.running.specs.declared.refusals.Refusal.{Refusal}
use Rattle.running.specs.declared.refusals.Refusal.TheVariants as refusal
use Rattle.running.specs.declared.refusals.RefusalCount.{RefusalCount}
use Rattle.running.specs.declared.events.LogEvent.{LogEvent}
use Rattle.running.specs.declared.events.LogEvent.TheVariants.{Ready, LinkUp, LinkDown, LinkUpTo, LinkUpAhead, LinkDownTo, Refused, ClientClosed, Decided, Stopped, Missed, End}

-- a text behind ` device: `, if there is one
abbrev pub device_text : Option (List ℕ) → List ℕ
device_text None = []
device_text (Some device) = codes " device: " ++ device

-- the line of an event, and the same with the time before it
abbrev pub bare_line : LogEvent → Option (List ℕ) → List ℕ
bare_line event device = log_text event ++ (device_text device ++ codes "\n")

abbrev pub timed_line : List ℕ → LogEvent → Option (List ℕ) → List ℕ
timed_line time event device = time ++ (codes " " ++ bare_line event device)

-- so many tokens more were written, and what stood before them stayed
abbrev pub Adds : {E : Type 0} → Result (Unit {0}) E → Written → Written → List Token → Type 0
Adds result old new added = OnOk result ((new.before ≡ old.before) × (new.tokens ≡ old.tokens ++ added))

-- a field that has a number, or a text
abbrev pub number_field : List ℕ → ℕ → List Token
number_field name n = key name ∷ number (decimal n) ∷ []

abbrev pub text_field : List ℕ → List ℕ → List Token
text_field name text = key name ∷ string text ∷ []

-- the time, or null where the clock tells none
abbrev pub time_field : Option (List ℕ) → List Token
time_field None = key (codes "time") ∷ null ∷ []
time_field (Some time) = text_field (codes "time") time

-- what the system said of the journal's file, if it is known
abbrev pub device_field : Option (List ℕ) → List Token
device_field None = []
device_field (Some device) = text_field (codes "device") device

-- the version of a link
abbrev pub version_field : Version → List Token
version_field version.One = number_field (codes "version") 1
version_field version.Two = number_field (codes "version") 2

-- a link that came up: `from` or `to` whom, and its version
abbrev pub up_fields : List ℕ → ℕ → Version → List Token
up_fields side peer version = number_field side peer ++ version_field version

-- a link that went down: `from` or `to` whom, and why
abbrev pub down_fields : List ℕ → ℕ → LinkEnd → List Token
down_fields side peer end = number_field side peer ++ text_field (codes "cause") (cause_text end)

-- how many members there are, and how many may lie; and all numbers of a size
abbrev pub members_fields : ℕ → ℕ → List Token
members_fields n t = number_field (codes "n") n ++ number_field (codes "t") t

abbrev pub size_fields : ℕ → ℕ → ℕ → List Token
size_fields n t questions = members_fields n t ++ number_field (codes "questions") questions

-- the first thing in which a Hello isn't one for this member
abbrev pub difference_fields : Difference → List Token
difference_fields (difference.Version version) =
    text_field (codes "differs") (codes "version") ++ number_field (codes "version") version
difference_fields (difference.Cluster cluster) =
    text_field (codes "differs") (codes "cluster") ++ number_field (codes "cluster") cluster
difference_fields (difference.Size n t questions) =
    text_field (codes "differs") (codes "size") ++ size_fields n t questions
difference_fields (difference.To member) = text_field (codes "differs") (codes "to") ++ number_field (codes "to") member
difference_fields difference.Host = text_field (codes "differs") (codes "host")

abbrev pub differs_fields : Option Difference → List Token
differs_fields None = []
differs_fields (Some difference) = difference_fields difference

-- who it said it was, if it said so
abbrev pub caller_fields : Option Caller → List Token
caller_fields None = []
caller_fields (Some caller) = number_field (codes "member") caller.member ++ differs_fields caller.differs

-- which member can't be reached, and why
abbrev pub unreachable_fields : ℕ → DialFault → List Token
unreachable_fields peer fault = number_field (codes "to") peer ++ text_field (codes "cause") (dial_fault_text fault)

-- who was refused, and by whom; which member can't be reached; or from which host a follower was closed
abbrev pub refusal_fields : Refusal → Option Caller → List Token
refusal_fields (refusal.From host end) caller =
    text_field (codes "host") (ip_text host) ++ (text_field (codes "cause") (cause_text end) ++ caller_fields caller)
refusal_fields (refusal.By peer) caller = number_field (codes "by") peer
refusal_fields (refusal.Unreachable peer fault) caller = unreachable_fields peer fault
refusal_fields (refusal.Unsteady peer) caller = number_field (codes "member") peer
refusal_fields refusal.Threadless caller = []
refusal_fields refusal.Crowded caller = []
refusal_fields (refusal.Stalled host) caller = text_field (codes "host") (ip_text host)

abbrev pub refused_fields : RefusalCount → List Token
refused_fields refused = refusal_fields refused.refusal refused.caller ++ number_field (codes "count") refused.count

-- a host, if it is known
abbrev pub host_field : Option IpAddr → List Token
host_field None = []
host_field (Some host) = text_field (codes "host") (ip_text host)

-- the place of a client, and for how many seconds it was silent
abbrev pub place_fields : ℕ → ℕ → List Token
place_fields slot silent = number_field (codes "place") slot ++ number_field (codes "silent") silent

-- a client that was closed for another
abbrev pub closed_fields : Option IpAddr → ℕ → ℕ → List Token
closed_fields host slot silent = host_field host ++ place_fields slot silent

-- the name of a refusal
abbrev pub refusal_name : Refusal → List ℕ
refusal_name (refusal.From host end) = codes "refused"
refusal_name (refusal.By peer) = codes "refused"
refusal_name (refusal.Unreachable peer fault) = codes "unreachable"
refusal_name (refusal.Unsteady peer) = codes "unsteady"
refusal_name refusal.Threadless = codes "thread-refused"
refusal_name refusal.Crowded = codes "follower-refused"
refusal_name (refusal.Stalled host) = codes "follower-closed"

-- the name of an event
abbrev pub event_name : LogEvent → List ℕ
event_name (Ready me) = codes "ready"
event_name (LinkUp peer version) = codes "link-up"
event_name (LinkDown peer end) = codes "link-down"
event_name (LinkUpTo peer version) = codes "link-up"
event_name (LinkUpAhead peer count version) = codes "link-up"
event_name (LinkDownTo peer end) = codes "link-down"
event_name (Refused refused) = refusal_name refused.refusal
event_name (ClientClosed host slot silent) = codes "client-closed"
event_name (Decided question bit) = codes "decided"
event_name Stopped = codes "stopped"
event_name (Missed count) = codes "missed"
event_name End = codes "end"

-- the fields of an event behind its name
abbrev pub event_fields : LogEvent → List Token
event_fields (Ready me) = number_field (codes "member") me
event_fields (LinkUp peer version) = up_fields (codes "from") peer version
event_fields (LinkDown peer end) = down_fields (codes "from") peer end
event_fields (LinkUpTo peer version) = up_fields (codes "to") peer version
event_fields (LinkUpAhead peer count version) = up_fields (codes "to") peer version ++ number_field (codes "ahead") count
event_fields (LinkDownTo peer end) = down_fields (codes "to") peer end
event_fields (Refused refused) = refused_fields refused
event_fields (ClientClosed host slot silent) = closed_fields host slot silent
event_fields (Decided question bit) = number_field (codes "question") question ++ number_field (codes "bit") (bit_number bit)
event_fields Stopped = []
event_fields (Missed count) = number_field (codes "count") count
event_fields End = []

-- the tokens of an event's object, and the object in a line
abbrev pub event_tokens : Option (List ℕ) → LogEvent → Option (List ℕ) → List Token
event_tokens time event device =
    begin_object ∷ (time_field time ++ (text_field (codes "event") (event_name event) ++ (event_fields event
    ++ (device_field device ++ end_object ∷ []))))

abbrev pub event_object : Option (List ℕ) → LogEvent → Option (List ℕ) → List ℕ
event_object time event device = print (event_tokens time event device) ++ codes "\n"
