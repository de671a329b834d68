-- What a line of events says.
use Rattle.std.specs.Prelude.{ℕ, ◌≡◌, Bool, Option, List, [], ◌∷◌, codes}
use Rattle.disk.specs.declared.Pick.{Pick}
use Rattle.sim.specs.declared.events.Which.{Which}
use Rattle.script.specs.declared.step.Verb.{Verb}
use Rattle.script.specs.declared.step.Verb.TheVariants as verb
use Rattle.script.specs.LineWords.{IsMember, IsCount, IsLong, IsGroupSize, IsBit, IsWhich, IsFuse, ArePick}
use Rattle.numerals.specs.Numbers.{IsHexOf}
use Rattle.script.specs.Acts.{Act}
use Rattle.script.specs.Fair.{Network, fresh}
use Rattle.script.specs.Acts.Act.{Propose, Deliver, DeliverAll, Lie, Fuse, Crash, Restart, Reset}

-- an act, or many
pub data ScriptStep : Type 0 where
  Once : (act : Act) → ScriptStep
  Rounds : (count : ℕ) → ScriptStep
  Random : (count : ℕ) → ScriptStep
  Fair : (left : ℕ) → (network : Network) → ScriptStep

-- the word that a line begins with
abbrev pub verb_name : Verb → List ℕ
verb_name verb.Propose = codes "propose"
verb_name verb.Deliver = codes "deliver"
verb_name verb.Group = codes "group"
verb_name verb.Lie = codes "lie"
verb_name verb.Fuse = codes "fuse"
verb_name verb.Crash = codes "crash"
verb_name verb.Restart = codes "restart"
verb_name verb.Reset = codes "reset"
verb_name verb.Rounds = codes "rounds"
verb_name verb.Random = codes "random"
verb_name verb.Fair = codes "fair"

-- one word, of this form
pub record One {A : Type 0} (First : List ℕ → A → Type 0) (words : List (List ℕ)) (a : A) : Type 0 where
  pub first : List ℕ
  pub words_are : words ≡ first ∷ []
  pub first_is : First first a

-- two words, of these forms
pub record Two {A B : Type 0} (First : List ℕ → A → Type 0) (Second : List ℕ → B → Type 0) (words : List (List ℕ)) (a : A) (b : B) : Type 0 where
  pub first : List ℕ
  pub second : List ℕ
  pub words_are : words ≡ first ∷ second ∷ []
  pub first_is : First first a
  pub second_is : Second second b

-- three words, of these forms
pub record Three {A B C : Type 0} (First : List ℕ → A → Type 0) (Second : List ℕ → B → Type 0) (Third : List ℕ → C → Type 0) (words : List (List ℕ)) (a : A) (b : B) (c : C) : Type 0 where
  pub first : List ℕ
  pub second : List ℕ
  pub third : List ℕ
  pub words_are : words ≡ first ∷ second ∷ third ∷ []
  pub first_is : First first a
  pub second_is : Second second b
  pub third_is : Third third c

-- what the words behind a line's first word say
abbrev pub SaysBehind : Verb → List (List ℕ) → ScriptStep → Type 0
-- propose M Q B
SaysBehind verb.Propose words step =
    (member : ℕ) × (question : ℕ) × (bit : Bool) × Three IsMember IsCount IsBit words member question bit
    × (step ≡ Once (Propose member question bit))
-- deliver A B next, deliver A B I
SaysBehind verb.Deliver words step =
    (from : ℕ) × (to : ℕ) × (which : Which) × Three IsMember IsMember IsWhich words from to which × (step ≡ Once (Deliver from to which))
-- group A B K
SaysBehind verb.Group words step =
    (from : ℕ) × (to : ℕ) × (count : ℕ) × Three IsMember IsMember IsGroupSize words from to count × (step ≡ Once (DeliverAll from to count))
-- lie L M HEX
SaysBehind verb.Lie words step =
    (liar : ℕ) × (to : ℕ) × (bytes : List ℕ) × Three IsMember IsMember IsHexOf words liar to bytes × (step ≡ Once (Lie liar to bytes))
-- fuse M K, fuse M off
SaysBehind verb.Fuse words step =
    (member : ℕ) × (calls : Option ℕ) × Two IsMember IsFuse words member calls × (step ≡ Once (Fuse member calls))
-- crash M kept, crash M lost, crash M fill HH
SaysBehind verb.Crash words step =
    (member : ℕ) × (pick : Pick) × (digits : List ℕ) × (behind : List (List ℕ)) × (words ≡ digits ∷ behind) × IsMember digits member
    × ArePick behind pick × (step ≡ Once (Crash member pick))
-- restart M
SaysBehind verb.Restart words step = (member : ℕ) × One IsMember words member × (step ≡ Once (Restart member))
-- reset A B
SaysBehind verb.Reset words step = (from : ℕ) × (to : ℕ) × Two IsMember IsMember words from to × (step ≡ Once (Reset from to))
-- rounds K
SaysBehind verb.Rounds words step = (count : ℕ) × One IsLong words count × (step ≡ Rounds count)
-- random K
SaysBehind verb.Random words step = (count : ℕ) × One IsLong words count × (step ≡ Random count)
-- fair K
SaysBehind verb.Fair words step = (count : ℕ) × One IsLong words count × (step ≡ Fair count fresh)

-- the words of a line say the step
pub record SaysStep (words : List (List ℕ)) (step : ScriptStep) : Type 0 where
  pub its_verb : Verb
  pub behind : List (List ℕ)
  pub words_are : words ≡ verb_name its_verb ∷ behind
  pub says : SaysBehind its_verb behind step
