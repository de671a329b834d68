-- With which version a link is dialled, and what came of a session.
use Rattle.std.specs.Prelude.{ℕ, Bool, true, false, nat_lt, ◌||◌, ◌&&◌, not, if◌then◌else◌}
use Rattle.wire.specs.declared.message.Version.{Version}
use Rattle.wire.specs.declared.message.Version.TheVariants as version
use Rattle.links.specs.declared.ends.LinkEnd.{LinkEnd}
use Rattle.links.specs.declared.ends.LinkEnd.TheVariants as end
use Rattle.running.specs.declared.versions.Reception.{Reception}
use Rattle.running.specs.declared.versions.Reception.TheVariants as reception
use Rattle.running.specs.declared.versions.Choice.{Choice}

abbrev pub other_version : Version → Version
other_version version.One = version.Two
other_version version.Two = version.One

abbrev pub is_two : Version → Bool
is_two version.One = false
is_two version.Two = true

-- What a session came to that ended so before its Welcome, so many seconds after it began. A read that fails later waited for a
-- peer that said nothing.
abbrev pub unwelcomed : LinkEnd → ℕ → Reception
unwelcomed end.Ended waited = reception.Refused
unwelcomed end.Lost waited = if nat_lt waited 2 then reception.Refused else reception.Unanswered
unwelcomed (end.Broken fault) waited = reception.Refused
unwelcomed end.OutOfOrder waited = reception.Refused
unwelcomed end.Stranger waited = reception.Unanswered
unwelcomed end.Busy waited = reception.Unanswered
unwelcomed end.Stopped waited = reception.Unanswered
unwelcomed end.Memory waited = reception.Unanswered

abbrev pub received : LinkEnd → Bool → ℕ → Reception
received cause true waited = reception.Welcomed
received cause false waited = unwelcomed cause waited

-- Of a session of version 2 that was refused nothing is told: it may be its version alone.
abbrev pub is_told_refusal : Reception → Version → Bool
is_told_refusal reception.Welcomed version = false
is_told_refusal reception.Unanswered version = false
is_told_refusal reception.Refused version.One = true
is_told_refusal reception.Refused version.Two = false

-- version 2 is tried first
abbrev pub first_choice : Choice
first_choice = record { version = version.Two; takes_two = false; refused = false }

-- the peer has welcomed version 2 before, or with this session
abbrev pub will_take_two : Choice → Bool
will_take_two choice = choice.takes_two || is_two choice.version

abbrev pub version_after_welcome : Choice → Version
version_after_welcome choice = if will_take_two choice then version.Two else version.One

-- a peer that has welcomed version 2 is asked for the same version twice in a row
abbrev pub tries_again : Choice → Bool
tries_again choice = choice.takes_two && not choice.refused

abbrev pub version_after_refusal : Choice → Version
version_after_refusal choice = if tries_again choice then choice.version else other_version choice.version

abbrev pub after_welcome : Choice → Choice
after_welcome choice = record {
  version = version_after_welcome choice;
  takes_two = will_take_two choice;
  refused = false;
}

abbrev pub after_refusal : Choice → Choice
after_refusal choice = record {
  version = version_after_refusal choice;
  takes_two = choice.takes_two;
  refused = true;
}
