-- The tossers of a life.
use Rattle.std.proofs.Common.{ℕ, zero, suc, ◌≡◌, ◌+◌, ◌*◌, ◌/◌, ◌<◌, ◌≤◌, List, [], ◌∷◌, ◌++◌, refl, ap, ◌∙◌, arith}
use Rattle.rand_chacha.specs.ChaCha.{ChaCha, key_of}
use Rattle.rounds.specs.Tossing.{next_toss, stream_of}
use Rattle.running.specs.Streams.{AreOfLife, IsOfLife, streams}

-- a toss more is of the same stream
pub tossed : (seed : List ℕ) (records : ℕ) (old new : ChaCha) (word : ℕ) → (word, new) ≡ next_toss old → IsOfLife seed records old → IsOfLife seed records new
tossed seed records old new word is of = record {
  key_is = ap (λ (p : ℕ × ChaCha). p.1.key) is ∙ of.key_is;
  stream_is = ap (λ (p : ℕ × ChaCha). p.1.stream / 256) is ∙ of.stream_is;
}

-- one more
one_more : (seed : List ℕ) (records : ℕ) (before : List ChaCha) (tosser : ChaCha) → AreOfLife seed records before → IsOfLife seed records tosser
    → AreOfLife seed records (before ++ tosser ∷ [])
one_more seed records [] tosser are is = (is, tt)
one_more seed records (first ∷ before) tosser are is = (are.0, one_more seed records before tosser are.1 is)

-- those of fewer than 256 places
pub streams_of_life : (seed : List ℕ) (records first count : ℕ) → first + count < 256 → AreOfLife seed records (streams seed (records * 256 + first) count)
streams_of_life seed records first zero few = tt
streams_of_life seed records first (suc count) few =
    one_more seed records (streams seed (records * 256 + first) count) (stream_of seed (records * 256 + first + count))
    (streams_of_life seed records first count (omega (arith, few)))
    (record { key_is = refl; stream_is = of_place records (first + count) (records * 256 + first + count) (omega (arith, few)) (omega arith) })
  where
    of_place : (records place stream : ℕ) → place < 256 → stream ≡ records * 256 + place → stream / 256 ≡ records
    of_place records place stream below is = omega (arith, below, is)
