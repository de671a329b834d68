-- The lines of a desk, as the gateway reads them.
use Rattle.std.specs.Prelude.{ℕ, ◌≡◌, ◌⊎◌, Bool, List, ◌∷◌, ◌++◌, codes}
use Rattle.numerals.specs.Numbers.{IsBelow}
use Rattle.gateway.specs.Motions.{bit_text}
use Rattle.gateway.specs.declared.replies.Reply.{Reply}
use Rattle.gateway.specs.declared.replies.Reply.TheVariants.{Decided, Up, Links, Epochs, Taken, Have, Told, Spent, Stopped, Other}

-- two numbers with a space between them
abbrev pub AreTwo : List ℕ → ℕ → ℕ → Type 0
AreTwo words m d = (first : List ℕ) × (second : List ℕ) × (words ≡ first ++ 32 ∷ second) × IsBelow 64 first m × IsBelow 64 second d

-- a question and a bit
abbrev pub AreQuestionAndBit : List ℕ → ℕ → Bool → Type 0
AreQuestionAndBit words question bit = (digits : List ℕ) × (words ≡ digits ++ 32 ∷ bit_text bit) × IsBelow 64 digits question

-- the first two numbers of the reply to LINKS
abbrev pub AreLinks : List ℕ → ℕ → ℕ → Type 0
AreLinks words coming going =
    (first : List ℕ) × (second : List ℕ) × (rest : List ℕ) × (words ≡ first ++ 32 ∷ (second ++ 32 ∷ rest)) × IsBelow 64 first coming × IsBelow 64 second going

-- the line tells this reply
abbrev pub Tells : List ℕ → Reply → Type 0
Tells line (Decided question bit) = (words : List ℕ) × (line ≡ codes "DECIDED " ++ words) × AreQuestionAndBit words question bit
Tells line (Up statements decided) = (words : List ℕ) × (line ≡ codes "UP " ++ words) × AreTwo words statements decided
Tells line (Links coming going) = (words : List ℕ) × (line ≡ codes "LINKS " ++ words) × AreLinks words coming going
Tells line (Epochs closed newest) = (words : List ℕ) × (line ≡ codes "EPOCHS " ++ words) × AreTwo words closed newest
Tells line Taken = line ≡ codes "OK"
Tells line Have = (line ≡ codes "HAVE 0") ⊎ (line ≡ codes "HAVE 1")
Tells line (Told bit) = line ≡ codes "DECIDED " ++ bit_text bit
Tells line Spent = line ≡ codes "SPENT"
Tells line Stopped = line ≡ codes "STOPPED"
Tells line Other = ⊥

-- the line tells no reply
abbrev pub TellsNothing : List ℕ → Type 0
TellsNothing line = (reply : Reply) → Tells line reply → ⊥

-- what the line says: the reply that it tells; any other line tells none
abbrev pub Says : List ℕ → Reply → Type 0
Says line reply = Tells line reply ⊎ ((reply ≡ Other) × TellsNothing line)

-- the line tells no reply that has numbers, and none without
pub record TellsNoNumbers (line : List ℕ) : Type 0 where
  pub decided : (question : ℕ) (bit : Bool) → Tells line (Decided question bit) → ⊥
  pub up : (statements decided : ℕ) → Tells line (Up statements decided) → ⊥
  pub links : (coming going : ℕ) → Tells line (Links coming going) → ⊥
  pub epochs : (closed newest : ℕ) → Tells line (Epochs closed newest) → ⊥

pub record TellsNoWord (line : List ℕ) : Type 0 where
  pub told : (bit : Bool) → Tells line (Told bit) → ⊥
  pub taken : Tells line Taken → ⊥
  pub have : Tells line Have → ⊥
  pub spent : Tells line Spent → ⊥
  pub stopped : Tells line Stopped → ⊥
