-- A script whose events are made as they are asked for.
use Rattle.std.proofs.Common.{ℕ, ◌≡◌, refl, arith, List, [], ◌∷◌, ◌++◌, length, map}
use Rattle.rand_chacha.specs.ChaCha.{ChaCha}
use Rattle.terms_prelude.specs.Terms.{Size}
use Rattle.script.specs.Words.{Order, Made, after_step, order_step, left_of}
use Rattle.script.proofs.Fronts.{first_events}

pub none_left : {X : Type 0} (l : List X) → length l ≡ 0 → l ≡ []
none_left [] h = refl
none_left (x ∷ xs) h = absurd (omega (arith, h))

-- a piece of an order
pub next_piece : (size : Size) (correct : List ℕ) (order rest : Order) (orders : List Order) (stream : ChaCha) (now : Made)
    → after_step size correct (order_step rest) now ≡ after_step size correct (order_step order) (record { events = []; stream = stream })
    → left_of size correct order orders stream ≡ now.events ++ left_of size correct rest orders now.stream
next_piece size correct order rest orders stream now same = first_events size correct (order_step order) (order_step rest) (map order_step orders) stream now same
