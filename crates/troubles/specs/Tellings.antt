-- What is told of faults in texts and journals.
use Rattle.std.specs.Prelude.{ℕ, ◌≡◌, ◌-◌, ◌==◌, ◌⊎◌, ◌||◌, ◌&&◌, not, if◌then◌else◌, nat_lt, Bool, false, true, List, [], ◌∷◌, ◌++◌, codes, length, take, Option, Some, None, Result, Ok, Err, slice_get, ⊤}
use Rattle.std.specs.Char.{is_ascii_alphanumeric}
use Rattle.std.specs.declared.alloc.AllocError.{AllocError}
use Rattle.std.specs.List.{list_any}
use Rattle.std.specs.Str.{IsUtf8, chars, encode_utf8_all}
use Rattle.std.specs.Fmt.{decimal}
use Rattle.commands.specs.Quoting.{has_hidden, quoted_text}
use Rattle.terms_prelude.specs.Terms.{Header, SizeFault}
use Rattle.terms.specs.declared.SizeFault.TheVariants.{NoMembers, TooManyMembers, TooManyLiars, NoQuestions, TooManyQuestions}
use Rattle.settings.specs.Keys.{key_text}
use Rattle.settings.specs.declared.fault.SettingsFault.{SettingsFault}
use Rattle.settings.specs.declared.fault.SettingsFault.TheVariants as unset
use Rattle.settings.specs.declared.keys.Key.{Key}
use Rattle.settings.specs.declared.keys.Key.TheVariants as key
use Rattle.journal.specs.declared.fault.JournalFault.{JournalFault}
use Rattle.journal.specs.declared.fault.JournalFault.TheVariants as unheld
use Rattle.commands.specs.Asked.{IsSaidOfKey, asked_words}
use Rattle.commands.specs.Owners.{IsHeadless, IsLongOwner, IsNoJournal, IsOtherOwner, IsOwner}
use Rattle.commands.specs.TextLines.{IsFirstBelow, IsFirstLine, IsLineIn, SaysKey, above_table, lines_in}
use Rattle.commands.specs.Damage.{IsPlaceOf, shown_bytes}
use Rattle.commands.specs.OldDamage.{IsOldPlaceOf}
use Rattle.migration.specs.declared.fault.MigrateFault.{MigrateFault}
use Rattle.journal.specs.File.{HasHeader}
use Rattle.commands.specs.declared.fault.SimulateFault.{SimulateFault}
use Rattle.commands.specs.declared.fault.SimulateFault.TheVariants as unplayed
use Rattle.sim.specs.declared.faults.SimFault.TheVariants.{BadLiars}
use Rattle.troubles.specs.Forms.{form_text, head_order, order_of}
use Rattle.troubles.specs.Misfits.{IsWhy}
use Rattle.troubles.specs.declared.forms.Order.{Order}
use Rattle.troubles.specs.declared.forms.Order.TheVariants as order
use Rattle.transcripts.specs.declared.fault.AuditFault.{AuditFault}
use Rattle.transcripts.specs.declared.fault.AuditFault.TheVariants as unread
use Rattle.troubles.specs.declared.fault.Fault.{Fault}
use Rattle.troubles.specs.declared.fault.Fault.TheVariants as ends
use Rattle.troubles.specs.declared.trouble.Whereabouts.{Whereabouts}
use Rattle.troubles.specs.declared.trouble.Whereabouts.TheVariants as place

-- the fault of a text of settings
abbrev pub of_settings : SettingsFault → Fault
of_settings unset.Text = ends.Settings unset.Text
of_settings (unset.Key key) = ends.Settings (unset.Key key)
of_settings (unset.Size fault) = ends.Settings (unset.Size fault)
of_settings unset.Memory = ends.Memory

-- the key to look at where the numbers make no size
abbrev pub size_key : SizeFault → Key
size_key NoMembers = key.N
size_key TooManyMembers = key.N
size_key TooManyLiars = key.T
size_key NoQuestions = key.Questions
size_key TooManyQuestions = key.Questions

-- the first line that gives the key a value, or the whole text
abbrev pub IsPlaceOfKey : Key → List ℕ → Whereabouts → Type 0
IsPlaceOfKey key text (place.Line number) = IsFirstLine (SaysKey (key_text key)) (lines_in text) (Some number)
IsPlaceOfKey key text place.Whole = ⊤
IsPlaceOfKey key text other = ⊥

-- a line of the text
abbrev pub IsLineOf : List ℕ → Whereabouts → Type 0
IsLineOf text (place.Line number) = IsLineIn text number
IsLineOf text other = ⊥

-- where a text of settings is wrong by this fault
abbrev pub IsSettingsPlace : SettingsFault → List ℕ → Whereabouts → Type 0
IsSettingsPlace unset.Text text at = IsLineOf text at
IsSettingsPlace (unset.Key key) text at = IsPlaceOfKey key text at
IsSettingsPlace (unset.Size fault) text at = IsPlaceOfKey (size_key fault) text at
IsSettingsPlace unset.Memory text at = ⊥

-- and what is said of it: the key and what its value has to be, and never the value
abbrev pub IsSettingsWords : SettingsFault → List ℕ → List ℕ → Type 0
IsSettingsWords unset.Text document text = ⊤
IsSettingsWords (unset.Key key) document text = IsSaidOfKey key document text
IsSettingsWords (unset.Size fault) document text = text ≡ asked_words (size_key fault)
IsSettingsWords unset.Memory document text = ⊥

-- the line of that number, or the whole text
abbrev pub place_at : Result (Option ℕ) AllocError → Whereabouts
place_at (Ok (Some number)) = place.Line number
place_at (Ok None) = place.Whole
place_at (Err refused) = place.Whole

-- the line of a key that is ignored, which may stand in a table, or the whole text
abbrev pub IsStrayPlace : List ℕ → Bool → List ℕ → Whereabouts → Type 0
IsStrayPlace name true text (place.Line number) =
    IsFirstBelow (above_table (lines_in text)) (SaysKey name) (lines_in text) (Some number)
IsStrayPlace name false text (place.Line number) = IsFirstLine (SaysKey name) (lines_in text) (Some number)
IsStrayPlace name in_table text place.Whole = ⊤
IsStrayPlace name in_table text other = ⊥

-- the first 200 characters
abbrev pub front_of : List ℕ → List ℕ
front_of text = encode_utf8_all (take 200 (chars text))

-- two dots behind so many bytes of a text of that length, if there are more
abbrev pub more_text : ℕ → ℕ → List ℕ
more_text shown length = if nat_lt shown length then codes " .." else []

-- the first 200 characters, in quotes or not, and two dots if there are more
abbrev pub cut_text : Bool → List ℕ → List ℕ
cut_text quoted text = (if quoted then quoted_text (front_of text) else front_of text) ++ more_text (length (front_of text)) (length text)

-- a byte that can't stand in a key without quotes
abbrev pub is_unbare : ℕ → Bool
is_unbare byte = not (is_ascii_alphanumeric byte || (byte == 95) || (byte == 45))

-- TOML takes the name of the key without quotes
abbrev pub is_bare : List ℕ → Bool
is_bare name = nat_lt 0 (length name) && not (list_any is_unbare name)

-- how the name of a key is told
abbrev pub key_name : List ℕ → List ℕ
key_name name = cut_text (not (is_bare name)) name

-- what is told of it
abbrev pub stray_words : List ℕ → Bool → List ℕ
stray_words name true = key_name name ++ codes ": stands in a table, ignored"
stray_words name false = key_name name ++ codes ": no key of the settings, ignored"

-- what is told of so many that aren't named
abbrev pub strays_words : ℕ → List ℕ
strays_words count = codes "more keys, ignored: " ++ decimal count

-- where a journal with these bytes is wrong by this fault, or all of it where that isn't known
abbrev pub IsJournalPlace : JournalFault → List ℕ → Whereabouts → Type 0
IsJournalPlace found file (place.Byte at) = IsPlaceOf found file (Some at)
IsJournalPlace found file place.Whole = ⊤
IsJournalPlace found file other = ⊥

-- where a journal of version 1 goes wrong by this fault: at the byte that is its place, or as a whole, where that isn't known
abbrev pub IsOldPlace : MigrateFault → List ℕ → Whereabouts → Type 0
IsOldPlace found file (place.Byte at) = IsOldPlaceOf found file (Some at)
IsOldPlace found file place.Whole = ⊤
IsOldPlace found file other = ⊥

-- what is said of a file that begins with no header: that it is empty, or its first bytes
abbrev pub headless_words : List ℕ → List ℕ
headless_words [] = codes "empty: `bracha init` makes the journal of a new member, and of no other"
headless_words (byte ∷ file) = codes "no journal of bracha: " ++ shown_bytes (byte ∷ file)

-- what is said of a file of that length that should have been empty and begins so: whose journal it begins as, or that it begins
-- as none
abbrev pub IsLongWords : List ℕ → ℕ → List ℕ → Type 0
IsLongWords front length text = IsLongOwner front length text ⊎ (IsHeadless front × (text ≡ headless_words front))

-- what is said of one that was read to its end: whose journal it is; where it is none, the same
abbrev pub IsOwnerWords : List ℕ → List ℕ → Type 0
IsOwnerWords file text = IsOwner file text ⊎ (IsNoJournal file × IsLongWords file (length file) text)

-- what is said of a file that is no journal of version 1: whether it begins as one of version 2
abbrev pub IsNotOldWords : List ℕ → List ℕ → Type 0
IsNotOldWords front text =
    (((header : Header) × HasHeader header front) × (text ≡ codes "is version 2 already, and needs no migration"))
    ⊎ (IsHeadless front × (text ≡ codes "no journal of version 1"))

-- and what is said of it where this header was asked for, if one was: whose journal it is, where it should have been empty or
-- another's, and where it is one
abbrev pub IsJournalWords : JournalFault → Option Header → List ℕ → List ℕ → Type 0
IsJournalWords unheld.NotEmpty asked file text = IsOwnerWords file text
IsJournalWords unheld.OtherHeader None file text = ⊤
IsJournalWords unheld.OtherHeader (Some asked) file text = IsOtherOwner file asked text ⊎ IsHeadless file
IsJournalWords unheld.BadHeader asked file text = text ≡ headless_words file
IsJournalWords unheld.OldVersion asked file text = text ≡ codes "a journal of version 1: `bracha migrate OLD NEW` brings it over into a new file"
IsJournalWords other asked file text = ⊤

-- where a script goes wrong by this fault: in its line, or as a whole
abbrev pub IsScriptPlace : SimulateFault → Whereabouts → Type 0
IsScriptPlace (unplayed.Line number) at = at ≡ place.Line number
IsScriptPlace other at = at ≡ place.Whole

-- a blank
abbrev pub is_blank : Option ℕ → Bool
is_blank (Some byte) = byte == 32
is_blank None = false

-- the last byte is a blank
abbrev pub ends_blank : List ℕ → Bool
ends_blank bytes = is_blank (slice_get bytes (length bytes - 1))

-- the line is shown in quotes
abbrev pub is_quoted : List ℕ → Bool
is_quoted line = has_hidden line || ends_blank line

-- what is said of a line: its front, or that it is no text
pub record IsLineWords (line text : List ℕ) : Type 0 where
  pub front : IsUtf8 line → text ≡ cut_text (is_quoted line) line
  pub other : (IsUtf8 line → ⊥) → text ≡ codes "not UTF-8"

-- the same of a line that may be missing, or empty, and that others may follow
abbrev pub AreLineWords : Option (List ℕ) → Bool → List ℕ → Type 0
AreLineWords None followed text = text ≡ codes "the text ends before this line"
AreLineWords (Some []) false text = text ≡ codes "the text ends before this line"
AreLineWords (Some []) true text = text ≡ codes "this line is empty"
AreLineWords (Some (byte ∷ line)) followed text = IsLineWords (byte ∷ line) text

-- what a line that may be missing is to be: one of the first five, or an event
abbrev pub IsOrderOf : Option (List ℕ) → Order → Type 0
IsOrderOf None o = ⊤
IsOrderOf (Some line) o = ((before : ℕ) × (head_order before ≡ Some o)) ⊎ (o ≡ order_of line)

-- what is told of the word that is wrong of a line that may be missing
abbrev pub IsWhyAt : Order → Option (List ℕ) → List ℕ → Type 0
IsWhyAt o None text = text ≡ []
IsWhyAt o (Some line) text = (text ≡ []) ⊎ IsWhy o line text

-- what is said of a line of a script: the line, which of its words is wrong, and how it is to be written
pub record AreScriptWords (line : Option (List ℕ)) (followed : Bool) (text : List ℕ) : Type 0 where
  pub said : List ℕ
  pub order : Order
  pub why : List ℕ
  pub shown : AreLineWords line followed said
  pub order_is : IsOrderOf line order
  pub why_is : IsWhyAt order line why
  pub is : text ≡ said ++ (codes ": " ++ (why ++ form_text order))

-- what is said of a script
abbrev pub IsScriptWords : SimulateFault → List ℕ → List ℕ → Type 0
IsScriptWords (unplayed.Line number) script text = AreScriptWords (slice_get (lines_in script) (number - 1)) (nat_lt number (length (lines_in script))) text
IsScriptWords (unplayed.Size size) script text = text ≡ asked_words (size_key size)
IsScriptWords unplayed.Events script text = text ≡ codes "more than 1000000 events, the most that are taken"
IsScriptWords (unplayed.Sim BadLiars) script text = text ≡ codes "the liars have to ascend, each below n, and to be t at most"
IsScriptWords other script text = ⊤

-- where a transcript goes wrong by this fault: in its line, or as a whole
abbrev pub IsTranscriptPlace : AuditFault → Whereabouts → Type 0
IsTranscriptPlace (unread.Line number) at = at ≡ place.Line number
IsTranscriptPlace other at = at ≡ place.Whole

-- what is said of a transcript
abbrev pub IsTranscriptWords : AuditFault → List ℕ → List ℕ → Type 0
IsTranscriptWords (unread.Line number) transcript text = AreLineWords (slice_get (lines_in transcript) (number - 1)) (nat_lt number (length (lines_in transcript))) text
IsTranscriptWords other transcript text = ⊤
