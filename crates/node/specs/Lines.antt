-- What comes of statements that links hand in while the book is in another thread's hands.
use Rattle.std.specs.Prelude.{ℕ, ◌≡◌, ◌⊎◌, ◌==◌, ◌<◌, ◌&&◌, Bool, true, false, Some, Result, Ok, Err, List, [], ◌∷◌, ◌++◌, length}
use Rattle.terms_prelude.specs.Terms.{Size, Statement, statement_eq}
use Rattle.rounds.specs.declared.tosses.Toss.{Toss}
use Rattle.questions.specs.declared.answer.Answer.{Answer}
use Rattle.member.specs.declared.fault.MemberFault.{MemberFault}
use Rattle.member.specs.declared.fault.MemberFault.TheVariants.{Memory}
use Rattle.member.specs.Groups.{bad_number}
use Rattle.node.specs.Accounts.{Group}
use Rattle.node.specs.Groups.{AppliesAll, RefusesAll}
use Rattle.node.specs.Parts.{IsPartOf}
use Rattle.node.specs.Views.{BookView}

-- what comes of statements: the account of the book that heard them, or the fault with which they are refused
abbrev pub OutcomeView : Type 0
OutcomeView = Result (List Group) MemberFault

-- a book heard these: its account, as far as it was seen, ends with a group of which they are a part
pub record WasHeard (es : Group) (after : List Group) : Type 0 where
  pub base : List Group
  pub group : Group
  pub ends : after ≡ base ++ group ∷ []
  pub part : IsPartOf es group

-- a book refused these statements with that fault, as a part of one group
pub record WasRefused (D : Type 0) (es : Group) (fault : MemberFault) : Type 0 where
  pub group : Group
  pub part : IsPartOf es group
  pub old : BookView D
  pub new : BookView D
  pub refuses : RefusesAll old group fault new

-- what a book does with a group, and no more: it answers it, or refuses it
abbrev pub ComesOf : {D : Type 0} → BookView D → Group → OutcomeView → BookView D → Type 0
ComesOf old group (Ok after) new = (answers : List Answer) × AppliesAll old group answers new
ComesOf old group (Err fault) new = RefusesAll old group fault new

-- what came of them: the book of that account heard them, a book refused them, or there was no memory to hand them in
abbrev pub HasCome : (D : Type 0) → Group → OutcomeView → Type 0
HasCome D es (Ok after) = 0 < length es → WasHeard es after
HasCome D es (Err fault) = WasRefused D es fault ⊎ (fault ≡ Memory)

-- why statements that are handed in aren't taken: one of them names a question or a member that there isn't, there was no
-- memory to hand them in, or a book refused them
abbrev pub IsRefusal : (D : Type 0) → Size → Group → MemberFault → Type 0
IsRefusal D size es fault = (bad_number size es ≡ Some fault) ⊎ HasCome D es (Err fault)

-- whether this is the statement with its toss, as it is heard from the peer
abbrev pub is_of : ℕ × Statement × Toss → ℕ → Statement × Toss → Bool
is_of heard peer event = (heard.0 == peer) && (statement_eq heard.1 event.0 && (heard.2.0 == event.1.0))

-- whether these are the statements, each with its toss, as they are heard from the peer
abbrev pub are_of : List (ℕ × Statement × Toss) → ℕ → List (Statement × Toss) → Bool
are_of [] peer [] = true
are_of [] peer (event ∷ events) = false
are_of (one ∷ heard) peer [] = false
are_of (one ∷ heard) peer (event ∷ events) = is_of one peer event && are_of heard peer events
