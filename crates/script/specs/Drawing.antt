-- What is drawn from a stream of words.
use Rattle.std.specs.Prelude.{ℕ, ◌+◌, ◌%◌, ◌==◌, if◌then◌else◌, Option, Some, None, List, [], ◌∷◌, ◌++◌}
use Rattle.std.specs.Int.{w64, to_be_bytes}
use Rattle.rand_chacha.specs.ChaCha.{ChaCha, next_word, of_seed}
use Rattle.rounds.specs.Tossing.{next_toss}
use Rattle.terms_prelude.specs.Terms.{Kind, Initial, Echo, Ready, Value, Zero, One, SureZero, SureOne, Unsure, Size, Statement, new_place, new_statement}
use Rattle.wire.specs.declared.message.Message.TheVariants as message
use Rattle.wire.specs.Texts.{frame_bytes}
use Rattle.disk.specs.declared.Pick.{Pick}
use Rattle.disk.specs.declared.Pick.TheVariants.{Kept, Lost, Fill}
use Rattle.sim.specs.declared.events.Which.TheVariants.{Next, At}
use Rattle.script.specs.Acts.{Act, TossedAct, takes_toss}
use Rattle.script.specs.Acts.Act.{Propose, Deliver, Lie, Fuse, Crash, Restart, Reset}

-- 24 bytes of zero
abbrev pub zeros : List ℕ
zeros =
    0 ∷ 0 ∷ 0 ∷ 0 ∷ 0 ∷ 0 ∷ 0 ∷ 0 ∷ 0 ∷ 0 ∷ 0 ∷ 0 ∷ 0 ∷ 0 ∷ 0 ∷ 0 ∷ 0 ∷ 0 ∷ 0 ∷ 0 ∷ 0 ∷ 0 ∷ 0 ∷ 0 ∷ []

-- the stream of a seed: stream 0 of ChaCha20, whose key is the seed's eight bytes, the greatest first, and zeros
unfoldable pub stream_of_seed : ℕ → ChaCha
stream_of_seed seed = of_seed (to_be_bytes w64 seed ++ zeros)

-- what is drawn from a stream: a value, and the stream after it
abbrev pub Drawn : Type 0 → Type 0
Drawn A = ChaCha → A × ChaCha

-- nothing more is drawn
abbrev pub pure : {A : Type 0} → A → Drawn A
pure x = λ g. (x, g)

-- the second is drawn behind the first
infixl 10 ◌>>=◌
abbrev pub ◌>>=◌ : {A B : Type 0} → Drawn A → (A → Drawn B) → Drawn B
first >>= second = λ g. second (first g).0 (first g).1

-- a word of ChaCha20, modulo a number
unfoldable pub below : ℕ → Drawn ℕ
below bound = λ g. ((next_word 10 g).0 % bound, (next_word 10 g).1)

-- a toss: two words, the first the low half
unfoldable pub toss : Drawn ℕ
toss = λ g. next_toss g

-- a member, or an origin
abbrev pub member : Size → Drawn ℕ
member size = below size.n

abbrev pub question : Size → Drawn ℕ
question size = below size.questions

abbrev pub kind_numbered : ℕ → Kind
kind_numbered w = if w == 0 then Initial else (if w == 1 then Echo else Ready)

abbrev pub kind : Drawn Kind
kind = do
  w ← below 3
  pure (kind_numbered w)

abbrev pub plain_numbered : ℕ → Value
plain_numbered w = if w == 0 then Zero else One

abbrev pub sure_numbered : ℕ → Value
sure_numbered w = if w == 0 then SureZero else (if w == 1 then SureOne else Unsure)

abbrev pub plain_value : Drawn Value
plain_value = do
  w ← below 2
  pure (plain_numbered w)

abbrev pub sure_value : Drawn Value
sure_value = do
  w ← below 3
  pure (sure_numbered w)

-- a value of the step
abbrev pub value : ℕ → Drawn Value
value step = if step == 3 then sure_value else plain_value

-- a statement of the first three rounds
abbrev pub statement : Size → Drawn Statement
statement size = do
  its_kind ← kind
  its_question ← question size
  origin ← member size
  round ← below 3
  step ← below 3
  its_value ← value (1 + step)
  pure (new_statement its_kind (new_place its_question origin (1 + round) (1 + step)) its_value)

-- 0 to 255 fills, 256 keeps, 257 loses
abbrev pub pick_numbered : ℕ → Pick
pick_numbered p = if p == 256 then Kept else (if p == 257 then Lost else Fill p)

-- 7 is off
abbrev pub calls_numbered : ℕ → Option ℕ
calls_numbered k = if k == 7 then None else Some k

abbrev pub deliver_next : Size → Drawn Act
deliver_next size = do
  from ← member size
  to ← member size
  pure (Deliver from to Next)

abbrev pub deliver_at : Size → Drawn Act
deliver_at size = do
  from ← member size
  to ← member size
  number ← below 64
  pure (Deliver from to (At number))

abbrev pub reset : Size → Drawn Act
reset size = do
  from ← member size
  to ← member size
  pure (Reset from to)

-- a statement of this liar to this member
abbrev pub lie_of : Size → ℕ → ℕ → Drawn Act
lie_of size liar to = do
  s ← statement size
  pure (Lie liar to (frame_bytes (message.Statement s)))

abbrev pub lie : Size → Drawn Act
lie size = do
  liar ← member size
  to ← member size
  lie_of size liar to

abbrev pub pick : Drawn Pick
pick = do
  p ← below 258
  pure (pick_numbered p)

abbrev pub crash : Size → Drawn Act
crash size = do
  its_member ← member size
  its_pick ← pick
  pure (Crash its_member its_pick)

abbrev pub restart : Size → Drawn Act
restart size = do
  its_member ← member size
  pure (Restart its_member)

abbrev pub calls : Drawn (Option ℕ)
calls = do
  k ← below 8
  pure (calls_numbered k)

abbrev pub fuse : Size → Drawn Act
fuse size = do
  its_member ← member size
  its_calls ← calls
  pure (Fuse its_member its_calls)

-- a proposal to this member
abbrev pub propose_to : Size → ℕ → Drawn Act
propose_to size its_member = do
  its_question ← question size
  bit ← below 2
  pure (Propose its_member its_question (bit == 1))

abbrev pub propose : Size → Drawn Act
propose size = do
  its_member ← member size
  propose_to size its_member

-- the act of a kind, 0 to 15
unfoldable pub act_of_kind : Size → ℕ → Drawn Act
act_of_kind size k =
    if k == 9 then deliver_at size
    else (if k == 10 then reset size
    else (if k == 11 then lie size
    else (if k == 12 then crash size
    else (if k == 13 then restart size
    else (if k == 14 then fuse size
    else (if k == 15 then propose size
    else deliver_next size))))))

-- an act of a cluster of this size
abbrev pub drawn : Size → Drawn Act
drawn size = do
  k ← below 16
  act_of_kind size k

-- the act as an event: where it takes a toss, that is drawn
abbrev pub tossed : Act → Drawn TossedAct
tossed act = λ g.
    if takes_toss act then (record { act = act; toss = Some (toss g).0 }, (toss g).1)
    else (record { act = act; toss = None }, g)
