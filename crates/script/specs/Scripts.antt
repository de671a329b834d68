-- Which script a text says, or which fault is its first.
use Rattle.std.specs.Prelude.{ℕ, ◌≡◌, ◌⊎◌, Some, None, List, [], ◌∷◌, codes, drop, map}
use Rattle.terms_prelude.specs.Terms.{Size, new_size, size_fault, SizeFault}
use Rattle.script.specs.declared.fault.ScriptFault.{ScriptFault}
use Rattle.script.specs.declared.fault.ScriptFault.TheVariants as faults
use Rattle.script.specs.declared.Script.{Script}
use Rattle.script.specs.LineWords.{IsCount, IsLong, AreMembers}
use Rattle.script.specs.Lines.{Page, page_from, line_number, HasLine}
use Rattle.script.specs.Acts.{TossedAct, tossed_act}
use Rattle.script.specs.Drawing.{stream_of_seed}
use Rattle.script.specs.Making.{Made, correct_below, LeadTo, BreakBy}

-- a name, and a number below 2^16
abbrev pub IsNumberNamed : List ℕ → List (List ℕ) → ℕ → Type 0
IsNumberNamed name words number = (word : List ℕ) × (words ≡ name ∷ word ∷ []) × IsCount word number

-- `liars`, and members
abbrev pub AreListedLiars : List (List ℕ) → List ℕ → Type 0
AreListedLiars words liars = (listed : List (List ℕ)) × (words ≡ codes "liars" ∷ listed) × AreMembers listed liars

-- `seed`, and a number below 2^64
abbrev pub IsSeed : List (List ℕ) → ℕ → Type 0
IsSeed words seed = (word : List ℕ) × (words ≡ codes "seed" ∷ word ∷ []) × IsLong word seed

-- the numbers of the first three lines make this size
pub record MakeSize (n t questions : ℕ) (size : Size) : Type 0 where
  pub size_is : size ≡ new_size n t questions
  pub sound : size_fault n t questions ≡ None

-- the first five lines
pub record IsHead (page : Page) (size : Size) (liars : List ℕ) (seed : ℕ) : Type 0 where
  pub n : ℕ
  pub t : ℕ
  pub questions : ℕ
  pub n_is : HasLine page 0 (IsNumberNamed (codes "n")) n
  pub t_is : HasLine page 1 (IsNumberNamed (codes "t")) t
  pub questions_is : HasLine page 2 (IsNumberNamed (codes "questions")) questions
  pub size_is : MakeSize n t questions size
  pub liars_are : HasLine page 3 AreListedLiars liars
  pub seed_is : HasLine page 4 IsSeed seed

-- no events yet, and the words of the seed
abbrev pub at_start : ℕ → Made
at_start seed = record { events = []; stream = stream_of_seed seed }

-- the text says a cluster of that size, in which these members lie, and these events: its first five lines the head, all
-- others the events
pub record SaysCluster (text : List ℕ) (size : Size) (liars : List ℕ) (events : List TossedAct) : Type 0 where
  pub seed : ℕ
  pub last : Made
  pub head : IsHead (page_from text) size liars seed
  pub steps : LeadTo size (correct_below size.n liars) (at_start seed) (drop 5 (page_from text).said) last
  pub events_are : events ≡ last.events

-- the text says the script
abbrev pub IsScript : List ℕ → Script → Type 0
IsScript text script = SaysCluster text script.size script.liars.items (map tossed_act script.events.items)

-- there is no line at that place of that form, and the fault names it
pub record LacksLine {A : Type 0} (page : Page) (place : ℕ) (Form : List (List ℕ) → A → Type 0) (fault : ScriptFault) : Type 0 where
  pub none : (x : A) → HasLine page place Form x → ⊥
  pub fault_is : fault ≡ faults.Line (line_number page place)

-- the line at that place isn't of the form, or it is and the fault is a later one
abbrev pub FailsOr : {A : Type 0} → Page → ℕ → (List (List ℕ) → A → Type 0) → (A → ScriptFault → Type 0) → ScriptFault → Type 0
FailsOr {A} page place Form Later fault =
    LacksLine page place Form fault ⊎ ((x : A) × HasLine page place Form x × Later x fault)

-- the numbers make no size, or they do and the fault is a later one
abbrev pub SizeFailsOr : ℕ → ℕ → ℕ → (Size → ScriptFault → Type 0) → ScriptFault → Type 0
SizeFailsOr n t questions Later fault =
    ((wrong : SizeFault) × (size_fault n t questions ≡ Some wrong) × (fault ≡ faults.Size wrong))
    ⊎ ((size : Size) × MakeSize n t questions size × Later size fault)

-- the fault is the first of the first five lines, or they are those of a head and the fault is a later one
abbrev pub HeadFailsOr : Page → (Size → List ℕ → ℕ → ScriptFault → Type 0) → ScriptFault → Type 0
HeadFailsOr page Later =
    FailsOr page 0 (IsNumberNamed (codes "n")) (λ n.
    FailsOr page 1 (IsNumberNamed (codes "t")) (λ t.
    FailsOr page 2 (IsNumberNamed (codes "questions")) (λ questions.
    SizeFailsOr n t questions (λ size.
    FailsOr page 3 AreListedLiars (λ liars.
    FailsOr page 4 IsSeed (λ seed. Later size liars seed))))))

-- the fault is the first of the first five lines
abbrev pub IsHeadFault : Page → ScriptFault → Type 0
IsHeadFault page = HeadFailsOr page (λ size liars seed fault. ⊥)

-- the fault is the first of the text, from the top
abbrev pub IsFirstFault : List ℕ → ScriptFault → Type 0
IsFirstFault text =
    HeadFailsOr (page_from text) (λ size liars seed.
    BreakBy size (correct_below size.n liars) (at_start seed) (drop 5 (page_from text).said))
