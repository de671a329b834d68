-- Decisions that are shown.
use Rattle.std.proofs.Common.{ℕ, zero, suc, ◌≡◌, ◌⊎◌, ◌<◌, inl, inr, sym, ap, ◌∙◌, Some, List, [], ◌∷◌, ◌++◌, length, drop, slice_get, append-nil, get_or}
use Rattle.std.proofs.lemmas.Option.{slice_get-get_or}
use mathlib.Core.List.{IsPrefix}
use Rattle.terms_prelude.specs.Terms.{Header}
use Rattle.member.specs.Words.{member_saved}
use Rattle.node.specs.declared.order.Decision.{Decision}
use Rattle.node.specs.Words.{AreDecisions, AreDecisionsOf, BookView, IsBookOf, decisions_in}

-- what stands in a beginning stands there in all
in_front : {A : Type 0} (xs all : List A) (k : ℕ) (x : A) → IsPrefix xs all → slice_get xs k ≡ Some x → slice_get all k ≡ Some x
in_front [] all k x p at = absurd (cc (at))
in_front (y ∷ xs) [] k x p at = absurd (cc (p.1))
in_front (y ∷ xs) (z ∷ all) zero x p at = ap Some (let e : y ≡ z = cc (p.1) in sym e) ∙ at
in_front (y ∷ xs) (z ∷ all) (suc k) x p at = in_front xs all k x (p.0, cc (p.1)) at

-- the decisions of a book are those of its hub's
pub decisions_of_book : {D : Type 0} (header : Header) (questions : ℕ) (b : BookView D) (items : List Decision) → IsBookOf header b
    → AreDecisions questions (member_saved b.member) items → AreDecisionsOf D header items
decisions_of_book header questions b items is are number decision at = record {
  book = b;
  book_is = is;
  decision_is = in_front items (decisions_in (member_saved b.member)) number decision are.front at;
}

-- a list with nothing behind it
alone : {A : Type 0} (xs : List A) (k : ℕ) → slice_get (xs ++ []) k ≡ slice_get xs k
alone {A} xs k = ap (λ (l : List A). slice_get l k) (append-nil xs)

-- what stands in a list that another goes on from there
pub seam : {A : Type 0} (xs ys : List A) (k : ℕ) (x : A) → slice_get (xs ++ drop (length xs) ys) k ≡ Some x
    → (slice_get xs k ≡ Some x) ⊎ (slice_get ys k ≡ Some x)
seam [] ys k x at = inr at
seam (y ∷ xs) [] k x at = inl (sym (alone (y ∷ xs) k) ∙ at)
seam (y ∷ xs) (z ∷ ys) zero x at = inl at
seam (y ∷ xs) (z ∷ ys) (suc k) x at = seam xs ys k x at

-- those that are shown, and those of a book behind them
pub more_decisions : {D : Type 0} (header : Header) (old all : List Decision) → AreDecisionsOf D header old → AreDecisionsOf D header all
    → AreDecisionsOf D header (old ++ drop (length old) all)
more_decisions header old all o a number decision at = elim (seam old all number decision at) [
  | inl was ↦ o number decision was
  | inr is ↦ a number decision is
]

-- what a look at an index finds
pub found_at : {A : Type 0} (xs : List A) (i : ℕ) (x : A) → i < length xs → x ≡ get_or xs i x → slice_get xs i ≡ Some x
found_at xs i x less is = slice_get-get_or xs i x less ∙ ap Some (sym is)
