-- The end of a line.
use Rattle.std.proofs.Common.{ℕ, ◌≡◌, ◌∙◌, ap₂, sym, true, List, ◌++◌, take, drop, nat_eq}
use Rattle.std.proofs.lemmas.List.{take-append-drop}
use Rattle.std.specs.Cmp.Lexicographic.{pointwise, same_text}

-- a text that ends so is what stands before, and that end
pub ends : (text line end : List ℕ) (at : ℕ) → pointwise nat_eq (drop at text) end ≡ true → line ≡ take at text → text ≡ line ++ end
ends text line end at same is =
    let tail : drop at text ≡ end = same_text (drop at text) end (sym same) in
    sym (take-append-drop at text) ∙ ap₂ (λ (front back : List ℕ). front ++ back) (sym is) tail
