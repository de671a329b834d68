-- How far the member of a book is.
use Rattle.std.specs.Prelude.{ℕ, ◌≡◌, List, Option, Some, None, length, slice_get, if◌then◌else◌}
use Rattle.terms_prelude.specs.Terms.{Header, Record}
use Rattle.member.specs.Sealed.{sealed_from}
use Rattle.member.specs.Readers.{member_header, member_saved, member_is_stopped}
use Rattle.member.specs.declared.sealed.Sealed.{Sealed}
use Rattle.node.specs.Accounts.{Group}
use Rattle.node.specs.Books.{IsReplayed, decided_below}
use Rattle.node.specs.Decisions.{decisions_in}
use Rattle.node.specs.Keeps.{IsTied}
use Rattle.node.specs.Views.{BookView}
use Rattle.node.specs.declared.order.Decision.{Decision}

-- how many statements are in its outbox, and how many questions it has decided; none where it is stopped
abbrev pub status_of : {D : Type 0} → BookView D → Option (ℕ × ℕ)
status_of b =
    if member_is_stopped b.member then None
    else Some (length (sealed_from 0 (member_saved b.member)), decided_below (member_header b.member).size.questions (member_saved b.member))

-- the book is of the hub with that header: its member has it, and is the replay of its history over its opening records;
-- while that isn't stopped, the history has of each link just the firsts of what the account has of it
pub record IsBookOf {D : Type 0} (header : Header) (b : BookView D) : Type 0 where
  pub header_is : member_header b.member ≡ header
  pub replayed : IsReplayed b.member b.opening b.history
  pub tied : IsTied b.member b.history b.log

-- the book is of that hub, whose member opened with these records, and its account has these groups
pub record IsBookAt {D : Type 0} (header : Header) (opening : List Record) (log : List Group) (b : BookView D) : Type 0 where
  pub of_hub : IsBookOf header b
  pub opening_is : b.opening ≡ opening
  pub log_is : b.log ≡ log

-- that far is the member of that hub's book when its account has these groups
pub record IsStanding (D : Type 0) (header : Header) (opening : List Record) (log : List Group) (status : Option (ℕ × ℕ)) : Type 0 where
  pub book : BookView D
  pub book_is : IsBookAt header opening log book
  pub status_is : status ≡ status_of book

-- the member of some book of that hub has saved this decision, with that number in the order of its journal
pub record IsDecisionOf (D : Type 0) (header : Header) (number : ℕ) (decision : Decision) : Type 0 where
  pub book : BookView D
  pub book_is : IsBookOf header book
  pub decision_is : slice_get (decisions_in (member_saved book.member)) number ≡ Some decision

-- each of these is, with its number
abbrev pub AreDecisionsOf : Type 0 → Header → List Decision → Type 0
AreDecisionsOf D header decisions =
    (number : ℕ) (decision : Decision) → slice_get decisions number ≡ Some decision → IsDecisionOf D header number decision

-- what a hub shows: statements of its book's outbox, decisions of its member, and how far that is; and the groups that the
-- book's account had then
pub record PublishedView : Type 0 where
  pub items : List Sealed
  pub decisions : List Decision
  pub status : Option (ℕ × ℕ)
  pub log : List Group
