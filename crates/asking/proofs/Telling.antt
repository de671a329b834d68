-- What is printed of members' replies, and the status for all.
use Rattle.std.proofs.Common.{ℕ, ◌≡◌, ◌≤◌, inl, inr, refl, sym, ap, subst, arith, max, Bool, true, false, Option, Some, List, [], ◌∷◌, ◌++◌, option_map}
use Rattle.std.specs.declared.alloc.Global.{Global}
use Rattle.std.specs.declared.vec.Vec.{Vec}
use Rattle.commands.specs.Closings.{IsTold}
use Rattle.commands.specs.Talks.{HasReadyStatus, HasStatus}
use Rattle.commands.specs.declared.closing.Told.{Told}
use Rattle.asking.specs.Statings.{AreTold, HasStatusOf, HasStatusOfAll, reply_texts}

-- the status of a reply is that of a member that isn't to be ready
pub as_told : (ready : Bool) (reply : List ℕ) (status : ℕ) → ready ≡ false → HasStatus reply status → HasStatusOf ready (Some reply) status
as_told ready reply status is told = subst (λ (r : Bool). HasStatusOf r (Some reply) status) (sym is) told

pub as_ready : (ready : Bool) (reply : List ℕ) (status : ℕ) → ready ≡ true → HasReadyStatus reply status → HasStatusOf ready (Some reply) status
as_ready ready reply status is told = subst (λ (r : Bool). HasStatusOf r (Some reply) status) (sym is) told

-- the status of all is the highest of that of the first and that of the others
pub highest : (ready : Bool) (reply : Option (List ℕ)) (replies : List (Option (List ℕ))) (one others : ℕ) → HasStatusOf ready reply one
    → HasStatusOfAll ready replies others → HasStatusOfAll ready (reply ∷ replies) (max one others)
highest ready reply replies one others (inl (is, well)) (inl (are, all)) = inl (omega (arith, is, are), (well, all))
highest ready reply replies one others (inl (is, well)) (inr (are, not)) = inr (omega (arith, is, are), λ every. not every.1)
highest ready reply replies one others (inr (is, bad)) (inl (are, all)) = inr (omega (arith, is, are), λ every. bad every.0)
highest ready reply replies one others (inr (is, bad)) (inr (are, not)) = inr (omega (arith, is, are), λ every. bad every.0)

-- words on the epochs, with one more
pub told_more : (replies : List (Option (List ℕ))) (words : List Told) (reply : Option (List ℕ)) (word : Told) → AreTold replies words → IsTold reply word
    → AreTold (replies ++ reply ∷ []) (words ++ word ∷ [])
told_more [] [] reply word are is = (is, tt)
told_more [] (other ∷ words) reply word are is = absurd are
told_more (other ∷ replies) [] reply word are is = absurd are
told_more (other ∷ replies) (one ∷ words) reply word (first, rest) is = (first, told_more replies words reply word rest is)

-- a status is 0 or 1
pub few_of : (ready : Bool) (reply : Option (List ℕ)) (status : ℕ) → HasStatusOf ready reply status → status ≤ 1
few_of ready reply status (inl (is, well)) = omega (arith, is)
few_of ready reply status (inr (is, bad)) = omega (arith, is)

-- the bytes of replies, with one more
pub texts_more : (replies : List (Option (Vec ℕ Global))) (reply : Option (Vec ℕ Global))
    → reply_texts (replies ++ reply ∷ []) ≡ reply_texts replies ++ option_map (λ sent. sent.items) reply ∷ []
texts_more [] reply = refl
texts_more (other ∷ replies) reply = ap (λ (texts : List (Option (List ℕ))). option_map (λ sent. sent.items) other ∷ texts) (texts_more replies reply)
