-- Who says that it is a member, and in what that differs from what is expected.
use Rattle.std.specs.Prelude.{ℕ, ◌≡◌, ◌≢◌, ◌⊎◌, ◌<◌, ◌^◌, Bool, true, false, ◌&&◌, ◌==◌, List, [], ◌∷◌, ◌++◌, Option, Some, None, codes}
use Rattle.std.specs.Int.{w16, w64, to_be_bytes}
use Rattle.std.specs.Fmt.{decimal}
use Rattle.terms_prelude.specs.Terms.{Size, Header}
use Rattle.running.specs.declared.callers.Claim.{Claim}
use Rattle.running.specs.declared.callers.Caller.{Caller}
use Rattle.running.specs.declared.callers.Difference.{Difference}
use Rattle.running.specs.declared.callers.Difference.TheVariants as difference

-- the bytes of a Hello that says so
abbrev pub claim_bytes : Claim → List ℕ
claim_bytes claim = 0 ∷ 16 ∷ 1 ∷ claim.version ∷ (to_be_bytes w64 claim.cluster
    ++ claim.n ∷ claim.t ∷ (to_be_bytes w16 claim.questions ++ claim.from ∷ claim.to ∷ []))

-- what the Hello says of a member of a lawful cluster
abbrev pub claim_from : ℕ → ℕ → Size → ℕ → ℕ → Claim
claim_from version cluster size from to = record {
  version = version;
  cluster = cluster;
  n = size.n;
  t = size.t;
  questions = size.questions;
  from = from;
  to = to;
}

-- it can be written in so many bytes
pub record Fits (claim : Claim) : Type 0 where
  pub cluster : claim.cluster < 2 ^ 64
  pub questions : claim.questions < 2 ^ 16

-- it is of that size
abbrev pub is_size : Claim → Size → Bool
is_size claim size = (claim.n == size.n) && ((claim.t == size.t) && (claim.questions == size.questions))

-- In what it differs from what the header's member expects, where `May` says that its host may speak for it. Nothing is told
-- only where all of it is as expected.
abbrev pub Differs : Claim → Header → Type 0 → Option Difference → Type 0
Differs claim header May (Some (difference.Version version)) = (version ≡ claim.version) × (version ≢ 1) × (version ≢ 2)
Differs claim header May (Some (difference.Cluster cluster)) = (cluster ≡ claim.cluster) × (cluster ≢ header.cluster)
Differs claim header May (Some (difference.Size n t questions)) =
    ((n ≡ claim.n) × (t ≡ claim.t) × (questions ≡ claim.questions)) × (is_size claim header.size ≡ false)
Differs claim header May (Some (difference.To member)) = (member ≡ claim.to) × (member ≢ header.me)
Differs claim header May (Some difference.Host) = May → ⊥
Differs claim header May None =
    ((claim.version ≡ 1) ⊎ (claim.version ≡ 2)) × (claim.cluster ≡ header.cluster) × (is_size claim header.size ≡ true)
    × (claim.to ≡ header.me) × May

-- a difference, behind the member
abbrev pub difference_text : Difference → List ℕ
difference_text (difference.Version version) = codes " of version " ++ decimal version
difference_text (difference.Cluster cluster) = codes " of cluster " ++ decimal cluster
difference_text (difference.Size n t questions) =
    codes " of n " ++ (decimal n ++ (codes " t " ++ (decimal t ++ (codes " questions " ++ decimal questions))))
difference_text (difference.To member) = codes " to member " ++ decimal member
difference_text difference.Host = codes " from another host"

-- its difference, if it has any
abbrev pub differs_text : Option Difference → List ℕ
differs_text None = []
differs_text (Some difference) = difference_text difference

-- who it said it was
abbrev pub caller_text : Caller → List ℕ
caller_text caller = codes ": member " ++ (decimal caller.member ++ differs_text caller.differs)
