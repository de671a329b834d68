-- The journals that are made for an epoch.
use Rattle.std.proofs.Common.{◌≡◌, ◌≤◌, List, [], ◌∷◌, ◌++◌, drop, length, take, sym, ap, ◌∙◌, subst}
use Rattle.std.specs.List.{All}
use Rattle.std.proofs.lemmas.List.{drop-append-le, take-append-le}
use Rattle.std.proofs.lemmas.List.Elements.{All-push}

-- with one more the first ones are the same
pub first_stay : {X : Type 0} (old before longer : List X) (one : X) → length old ≤ length before → take (length old) before ≡ old
    → longer ≡ before ++ one ∷ [] → take (length old) longer ≡ old
first_stay old before longer one within first is =
    ap (take (length old)) is ∙ take-append-le (length old) before (one ∷ []) within ∙ first

-- with one more of a kind all past the first ones are of that kind
pub more_alike : {X : Type 0} (P : X → Type 0) (old before longer : List X) (one : X) → length old ≤ length before → All P (drop (length old) before)
    → P one → longer ≡ before ++ one ∷ [] → All P (drop (length old) longer)
more_alike P old before longer one within all p is =
    subst (All P) (sym (ap (drop (length old)) is ∙ drop-append-le (length old) before (one ∷ []) within))
    (All-push P (drop (length old) before) one all p)
