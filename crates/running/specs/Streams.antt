-- Streams of tosses.
use Rattle.std.specs.Prelude.{ℕ, zero, suc, ◌≡◌, ◌+◌, ◌/◌, List, [], ◌∷◌, ◌++◌}
use Rattle.rand_chacha.specs.ChaCha.{ChaCha, key_of}
use Rattle.rounds.specs.Tossing.{stream_of}

-- so many streams of the seed, with the numbers from this one on
abbrev pub streams : List ℕ → ℕ → ℕ → List ChaCha
streams seed first zero = []
streams seed first (suc k) = streams seed first k ++ stream_of seed (first + k) ∷ []

-- It tosses from one of the seed's 256 streams that the life has whose journal had so many records, wherever in it it stands.
pub record IsOfLife (seed : List ℕ) (records : ℕ) (tosser : ChaCha) : Type 0 where
  pub key_is : tosser.key ≡ key_of seed
  pub stream_is : tosser.stream / 256 ≡ records

-- all of these do
abbrev pub AreOfLife : List ℕ → ℕ → List ChaCha → Type 0
AreOfLife seed records [] = Unit {0}
AreOfLife seed records (t ∷ ts) = IsOfLife seed records t × AreOfLife seed records ts
