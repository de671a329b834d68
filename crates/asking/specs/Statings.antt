-- What is sent to all members of a cluster, and what is made of their replies.
use Rattle.std.specs.Prelude.{ℕ, ◌≡◌, ◌≢◌, ◌⊎◌, ◌||◌, ◌&&◌, not, is_some, Bool, true, false, ⊤, Option, Some, None, List, [], ◌∷◌, ◌++◌, codes, map, option_map, slice_get}
use Rattle.std.specs.List.{AllByRecursion}
use Rattle.std.specs.declared.alloc.Global.{Global}
use Rattle.std.specs.declared.vec.Vec.{Vec}
use Rattle.commands.specs.Closings.{IsTold}
use Rattle.commands.specs.Replies.{IsMemberObject, IsReady}
use Rattle.commands.specs.Talks.{IsGood, links_line, member_line, state_line, status_line}
use Rattle.commands.specs.declared.closing.Told.{Told}
use Rattle.asking.specs.declared.stating.StateForm.{StateForm}

-- the line that asks for a question's state, or for the links or the state of the member
abbrev pub line_of : Option ℕ → (links : Bool) → List ℕ
line_of (Some question) links = state_line question
line_of None true = links_line
line_of None false = status_line

-- the line that asks for what the form has
abbrev pub line_for : StateForm → List ℕ
line_for form = line_of form.question (form.links || form.ready)

-- a reply, and the words for none
abbrev pub words_for : Option (List ℕ) → List ℕ
words_for None = codes "no answer"
words_for (Some reply) = reply

-- the member did as it was asked, or, where it is to be ready, has as many links as it needs. One that doesn't answer didn't
abbrev pub DidWell : (ready : Bool) → Option (List ℕ) → Type 0
DidWell ready None = ⊥
DidWell true (Some reply) = IsReady reply
DidWell false (Some reply) = IsGood reply

-- the status for a member: 0 if it did, and 1 else
abbrev pub HasStatusOf : (ready : Bool) → Option (List ℕ) → ℕ → Type 0
HasStatusOf ready reply status = ((status ≡ 0) × DidWell ready reply) ⊎ ((status ≡ 1) × (DidWell ready reply → ⊥))

-- and for all members: 0 if each did, and 1 else
abbrev pub HasStatusOfAll : (ready : Bool) → List (Option (List ℕ)) → ℕ → Type 0
HasStatusOfAll ready replies status =
    ((status ≡ 0) × AllByRecursion (DidWell ready) replies) ⊎ ((status ≡ 1) × (AllByRecursion (DidWell ready) replies → ⊥))

-- the members are to be ready: their links are asked for, and no question
abbrev pub wants_ready : StateForm → Bool
wants_ready form = form.ready && not (is_some form.question)

-- what is printed of a member: a line, or an object that says the same
abbrev pub IsToldLine : (json : Bool) → ℕ → List ℕ → List ℕ → Type 0
IsToldLine false member words text = text ≡ member_line member words
IsToldLine true member words text = IsMemberObject member words text

-- the bytes of replies
abbrev pub reply_texts : List (Option (Vec ℕ Global)) → List (Option (List ℕ))
reply_texts replies = map (λ reply. option_map (λ sent. sent.items) reply) replies

-- the members' words on their epochs, in order
abbrev pub AreTold : List (Option (List ℕ)) → List Told → Type 0
AreTold [] [] = ⊤
AreTold (reply ∷ replies) (word ∷ words) = IsTold reply word × AreTold replies words
AreTold [] (word ∷ words) = ⊥
AreTold (reply ∷ replies) [] = ⊥

-- the place of the member, if there is one, has this reply, and the others stay
pub record IsPlaced (old : List (Option (Vec ℕ Global))) (member : ℕ) (reply : Option (Vec ℕ Global)) (new : List (Option (Vec ℕ Global))) : Type 0 where
  pub own : slice_get new member ≡ option_map (λ _. reply) (slice_get old member)
  pub others : (other : ℕ) → other ≢ member → slice_get new other ≡ slice_get old other
