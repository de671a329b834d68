-- The first word of a text is the only one.
use Rattle.std.proofs.Common.{ℕ, ◌≡◌, sym, subst, ◌∙◌, List, ◌∷◌, ◌++◌}
use Rattle.numerals.specs.Numbers.{IsBelow}
use Rattle.numerals.specs.Spaces.{NoSpace}
use Rattle.numerals.proofs.Cuts.{no_cut, one_cut}
use Rattle.process.specs.Limits.{IsFirstNumber}

-- the first word writes the number
pub first_word : (text word behind : List ℕ) (first : ℕ) → text ≡ word ++ 32 ∷ behind → NoSpace word → IsFirstNumber text first → IsBelow 64 word first
first_word text word behind first cut spaceless is =
    let one = one_cut is.0 word is.1 behind is.3 spaceless (sym is.2 ∙ cut) in
    subst (λ (digits : List ℕ). IsBelow 64 digits first) one.0 is.4

-- without a space there is no first word
pub no_word : (text : List ℕ) (first : ℕ) → NoSpace text → IsFirstNumber text first → ⊥
no_word text first spaceless is = no_cut text is.0 is.1 spaceless is.2
