-- The times from proposals to decisions, counted by bounds.
use Rattle.std.specs.Prelude.{ℕ, ◌≡◌, ◌+◌, nat_le, List, [], ◌∷◌, if◌then◌else◌, length, map, min}
use Rattle.std.specs.List.{count_by}
use Rattle.gateway.specs.declared.times.Bucket.{Bucket}
use Rattle.gateway.specs.declared.times.Times.{Times}

-- the bounds, in milliseconds
unfoldable pub bounds : List ℕ
bounds = 5 ∷ 10 ∷ 25 ∷ 50 ∷ 100 ∷ 250 ∷ 500 ∷ 1000 ∷ 2500 ∷ 5000 ∷ 10000 ∷ []

-- how many times are at most so many milliseconds
abbrev pub within : List ℕ → ℕ → ℕ
within times most = count_by (λ ms. nat_le ms most) times

abbrev pub bucket_of : List ℕ → ℕ → Bucket
bucket_of times most = record { most = most; count = within times most }

-- one time more, up to the greatest number that there is
abbrev pub more : ℕ → ℕ
more count = min 18446744073709551615 (count + 1)

abbrev pub bucket_after : ℕ → Bucket → Bucket
bucket_after ms bucket = if nat_le ms bucket.most then record { most = bucket.most; count = more bucket.count } else bucket

-- these times were counted
pub record AreCounted (it : Times) (times : List ℕ) : Type 0 where
  pub buckets : it.buckets.items ≡ map (bucket_of times) bounds
  pub count : it.count ≡ length times

unfoldable pub Counts : Times → List ℕ → Type 0
Counts it times = AreCounted it times
