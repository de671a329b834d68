-- How a question stands at the member of a book.
use Rattle.std.specs.Prelude.{ℕ, ◌≡◌, ◌<◌, ◌≤◌, ◌==◌, ◌&&◌, Bool, true, false, Option, Some, None, List, if◌then◌else◌}
use Rattle.terms_prelude.specs.Terms.{Header, Record}
use Rattle.rounds.specs.Progress.{IsProgress}
use Rattle.member.specs.Answers.{verdict_of}
use Rattle.member.specs.Readers.{member_header, member_saved, member_is_stopped}
use Rattle.node.specs.Accounts.{Group}
use Rattle.node.specs.Standings.{IsBookAt}
use Rattle.node.specs.Views.{BookView}
use Rattle.node.specs.declared.state.QuestionState.{QuestionState}
use Rattle.node.specs.declared.state.QuestionState.TheVariants.{Unproposed, Open, Spent, Decided}

-- that of one that isn't decided, by the round and step of the last own Initial: behind that of round 32 step 3 none is said
abbrev pub state_at : Option (ℕ × ℕ) → QuestionState
state_at None = Unproposed
state_at (Some at) = if (at.0 == 32) && (at.1 == 3) then Spent else Open at.0 at.1

-- it is that of what was saved
abbrev pub IsOpenState : List Record → ℕ → ℕ → Option QuestionState → Type 0
IsOpenState saved me question state = (at : Option (ℕ × ℕ)) × IsProgress saved me question at × (state ≡ Some (state_at at))

-- the state of the question at the book's member: none where there is no such question, or where it isn't decided and the
-- member is stopped
pub record IsState {D : Type 0} (b : BookView D) (question : ℕ) (state : Option QuestionState) : Type 0 where
  pub absent : (member_header b.member).size.questions ≤ question → state ≡ None
  pub decided : (bit : Bool) → verdict_of (member_saved b.member) question ≡ Some bit → state ≡ Some (Decided bit)
  pub stopped : verdict_of (member_saved b.member) question ≡ None → member_is_stopped b.member ≡ true → state ≡ None
  pub undecided : question < (member_header b.member).size.questions → verdict_of (member_saved b.member) question ≡ None
      → member_is_stopped b.member ≡ false → IsOpenState (member_saved b.member) (member_header b.member).me question state

-- it is that at the member of that hub's book when its account has these groups
pub record IsStateOf (D : Type 0) (header : Header) (opening : List Record) (log : List Group) (question : ℕ) (state : Option QuestionState) : Type 0 where
  pub book : BookView D
  pub book_is : IsBookAt header opening log book
  pub state_is : IsState book question state
