-- Texts from the pieces that were written.
use Rattle.std.proofs.Common.{ℕ, ◌≡◌, refl, subst, Bool, true, false, Result, IfOk, string_bytes, String, List, Global}
use Rattle.std.specs.declared.alloc.AllocError.{AllocError}
use mir.Val.{bool_byte}
use Rattle.numerals.specs.Sentences.{bit_digit}

-- a text with other words for its bytes
pub written_as : (r : Result (String Global) AllocError) (bytes others : List ℕ) → bytes ≡ others → IfOk r (λ s. string_bytes s ≡ bytes) → IfOk r (λ s. string_bytes s ≡ others)
written_as r bytes others e h = subst (λ (b : List ℕ). IfOk r (λ s. string_bytes s ≡ b)) e h

pub bit_of : (bit : Bool) → bool_byte bit ≡ bit_digit bit
bit_of true = refl
bit_of false = refl
