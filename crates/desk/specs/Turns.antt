-- A client's session under way.
use Rattle.std.specs.Prelude.{ℕ, ◌≡◌, ◌⊎◌, ◌≤◌, List, [], ◌++◌, length}
use Rattle.numerals.specs.Lines.{line}
use Rattle.links.specs.Told.{Told, has_written, BreaksOff}
use Rattle.desk.specs.Replies.{reply_text}
use Rattle.node.specs.Verdicts.{PassView}
use Rattle.desk.specs.Sessions.{Exchange, IsLine, InTurn, AllGoOn, LosesReplies, Serves, Sitting, exchanged, sitting}
use Rattle.desk.specs.declared.held.Sheet.{Sheet}
use Rattle.desk.specs.declared.reply.Reply.{Reply}
use Rattle.desk.specs.declared.reply.Reply.TheVariants.{BadLine}
use Rattle.desk.specs.declared.serving.DeskEnd.{DeskEnd}
use Rattle.desk.specs.declared.serving.DeskEnd.TheVariants as end

-- a reply's line was written, one that fits
pub record Says (Fits : Reply → Type 0) (old new : Told) : Type 0 where
  pub reply : Reply
  pub fits : Fits reply
  pub wrote : new ≡ has_written old (line (reply_text reply))

-- A write failed, and few bytes that were held weren't written: with these the bytes broke off.
pub record Loses (old now : Told) (bytes : List ℕ) : Type 0 where
  pub unsaid : List ℕ
  pub few : length unsaid ≤ 4096
  pub broke : BreaksOff old (has_written now unsaid) bytes

-- such a line, or what was held before it, couldn't be written
pub record FailsToSay (Fits : Reply → Type 0) (old new : Told) : Type 0 where
  pub reply : Reply
  pub fits : Fits reply
  pub broke : Loses old new (line (reply_text reply))

-- a line that ends the session was answered as a bad one, and the session ends for that; or the answer couldn't be written
abbrev pub Refuses : Told → Told → List ℕ → DeskEnd → DeskEnd → Type 0
Refuses old new held why ended =
    ((ended ≡ why) × (has_written new held ≡ has_written old (line (reply_text BadLine))))
    ⊎ ((ended ≡ end.Lost) × Loses old new (line (reply_text BadLine)))

-- what was held at a session's end was written, or that failed
abbrev pub IsLeft : Told → Told → DeskEnd → DeskEnd → Type 0
IsLeft old new why ended = ((ended ≡ why) × (new ≡ old)) ⊎ ((ended ≡ end.Lost) × Loses old new [])

-- A session that comes to its end: its lines were answered in turn, with the replies that are held; or its stream was lost.
abbrev pub Leaves : {S : Type 0} → (S → List ℕ → Reply → S → Type 0) → S → S → Told → Told → List ℕ → DeskEnd → Type 0
Leaves Replies before after old now held why =
    ((why ≡ end.Lost → ⊥) × Serves Replies before after old (has_written now held) why)
    ⊎ ((why ≡ end.Lost) × LosesReplies Replies before after old now)

-- Lines were answered, the line that is held isn't yet, and more was read behind it.
pub record Serving {S : Type 0} (Replies : S → List ℕ → Reply → S → Type 0) (before after : S) (old now : Told) (held more : List ℕ) : Type 0 where
  pub exchanges : List Exchange
  pub each : InTurn Replies before exchanges after
  pub all_go_on : AllGoOn exchanges
  pub is_line : IsLine held
  pub told : now ≡ exchanged old exchanges (held ++ more)

-- How far a session has come: what it knows, what its stream tells once the replies that are held are written, and the line
-- that is held.
pub record Course (S : Type 0) : Type 0 where
  pub knows : S
  pub told : Told
  pub line : List ℕ

abbrev pub course : {T : Type 0} → PassView → T → Told → Sheet → Course (Sitting T)
course pass tosser told sheet = record {
  knows = sitting pass tosser;
  told = has_written told sheet.replies.items;
  line = sheet.line;
}

-- However the session began: if it has served its client up to one point, with these bytes behind the line that is held, then
-- also up to another, with these left of them.
abbrev pub GetsOn : {S : Type 0} → (S → List ℕ → Reply → S → Type 0) → Course S → List ℕ → Course S → List ℕ → Type 0
GetsOn {S} Replies before bytes after left =
    (begun : S) (old : Told)
    → Serving Replies begun before.knows old before.told before.line bytes
    → Serving Replies begun after.knows old after.told after.line left

-- then it comes to its end, with these replies held
abbrev pub ComesToEnd : {S : Type 0} → (S → List ℕ → Reply → S → Type 0) → Course S → List ℕ → S → Told → List ℕ → DeskEnd → Type 0
ComesToEnd {S} Replies before bytes after now held why =
    (begun : S) (old : Told)
    → Serving Replies begun before.knows old before.told before.line bytes
    → Leaves Replies begun after old now held why
