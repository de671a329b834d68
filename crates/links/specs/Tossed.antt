-- What a reader of a link hands in, each statement with its toss.
use Rattle.std.specs.Prelude.{ℕ, ◌≡◌, ◌⊎◌, List, [], ◌∷◌, ◌++◌, true}
use mathlib.Core.List.{IsPrefix}
use Rattle.terms_prelude.specs.Terms.{Size, Statement}
use Rattle.rounds.specs.declared.tosses.Toss.{Toss}
use Rattle.wire.specs.declared.message.Message.TheVariants as message
use Rattle.wire.specs.declared.message.Version.{Version}
use Rattle.wire.specs.Texts.{frame_bytes}
use Rattle.node.specs.Accounts.{Group}
use Rattle.node.specs.Firsts.{SeatView}
use Rattle.node.specs.Groups.{heard_from, said_in}
use Rattle.node.specs.Lines.{WasHeard}
use Rattle.links.specs.Told.{Told, has_written}
use Rattle.links.specs.Sending.{FailsToWrite}
use Rattle.links.specs.Tosses.{Draws, tosses_in}
use Rattle.links.specs.Handing.{in_order, HandsInAll, ends_whole, ReadsUntil}
use Rattle.links.specs.declared.ends.LinkEnd.{LinkEnd}

-- the statements of groups in order, each with its toss
abbrev pub all_of : List (List (Statement × Toss)) → List (Statement × Toss)
all_of [] = []
all_of (group ∷ groups) = group ++ all_of groups

-- The hub's book heard each of these groups from that peer, in order, each statement with its toss. Of its account a seat saw
-- so much before, after each group, and at the end.
abbrev pub WereHeard : ℕ → List Group → List (List (Statement × Toss)) → List Group → Type 0
WereHeard peer log [] now = now ≡ log
WereHeard peer log (group ∷ groups) now =
    (seen : List Group) × IsPrefix log seen × WasHeard (heard_from peer group) seen × WereHeard peer seen groups now

-- a front of these was handed in, in groups that the book heard, and this is left
pub record HandsPart (old now : SeatView) (all rest : List (Statement × Toss)) : Type 0 where
  pub groups : List (List (Statement × Toss))
  pub handed : HandsInAll old now (said_in (all_of groups))
  pub whole : all ≡ all_of groups ++ rest
  pub heard : WereHeard old.peer old.log groups now.log

-- all of these statements were handed in, in groups that the book heard, the k-th with the k-th toss that was drawn
pub record HandsTossed {T : Type 0} (may_toss : T → ℕ → T → Type 0) (first last : T) (before after : SeatView) (all : List Statement) : Type 0 where
  pub groups : List (List (Statement × Toss))
  pub said : said_in (all_of groups) ≡ all
  pub heard : WereHeard before.peer before.log groups after.log
  pub drawn : Draws may_toss first (tosses_in (all_of groups)) last

-- A front of these statements was handed in, in groups that the book heard, the k-th with the k-th toss that was drawn: all
-- of them, where the session ended otherwise than by a stop or for want of memory. Tosses that were drawn beside these go
-- with no statement.
pub record HandsTossedSome {T : Type 0} (may_toss : T → ℕ → T → Type 0) (first last : T) (before after : SeatView) (why : LinkEnd) (all : List Statement) : Type 0 where
  pub groups : List (List (Statement × Toss))
  pub rest : List Statement
  pub said : said_in (all_of groups) ++ rest ≡ all
  pub handed : HandsInAll before after (said_in (all_of groups))
  pub heard : WereHeard before.peer before.log groups after.log
  pub spare : List ℕ
  pub drawn : Draws may_toss first (tosses_in (all_of groups) ++ spare) last
  pub whole : ends_whole why ≡ true → (rest ≡ []) × (spare ≡ [])

-- bytes were read, and of their statements that many were handed in, each with its toss
pub record ReadsTossed {T : Type 0} (may_toss : T → ℕ → T → Type 0) (first last : T) (v : Version) (size : Size) (old new : Told) (before after : SeatView) (why : LinkEnd) : Type 0 where
  pub reads : ReadsUntil v size old new before after why
  pub tossed : HandsTossedSome may_toss first last before after why (in_order v reads.messages)

-- A session of a reader with its tosser: the Welcome didn't go out whole, and no toss was drawn; or it did, and then bytes
-- were read.
abbrev pub TossesLink : {T : Type 0} → (T → ℕ → T → Type 0) → T → T → Version → Size → Told → Told → SeatView → SeatView → LinkEnd → Type 0
TossesLink may_toss first last v size old new before after why =
    ((after ≡ before) × (last ≡ first) × FailsToWrite old new (frame_bytes (message.Welcome before.next)) why)
    ⊎ ReadsTossed may_toss first last v size (has_written old (frame_bytes (message.Welcome before.next))) new before after why
