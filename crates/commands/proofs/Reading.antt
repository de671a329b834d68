-- Bytes that are read one after the other.
use Rattle.std.proofs.Common.{ℕ, ◌≡◌, ◌==◌, ◌∙◌, ap, refl, sym, false, Option, Some, None, List, [], ◌∷◌, ◌++◌, append_assoc}
use Rattle.std.specs.Io.KnownBytes.{Consumes}
use Rattle.numerals.specs.Lines.{NoEnd}

-- one byte more was read
pub reads_more : (old between new : Option (List ℕ)) (bytes : List ℕ) (byte : ℕ) → Consumes old between bytes → Consumes between new (byte ∷ [])
    → Consumes old new (bytes ++ byte ∷ [])
reads_more None between new bytes byte before one = tt
reads_more (Some xs) None new bytes byte before one = absurd before
reads_more (Some xs) (Some ys) None bytes byte before one = absurd one
reads_more (Some xs) (Some ys) (Some zs) bytes byte before one =
    before ∙ (ap (λ (rest : List ℕ). bytes ++ rest) one ∙ sym (append_assoc bytes (byte ∷ []) zs))

-- nothing was read yet
pub reads_nothing : (known : Option (List ℕ)) → Consumes known known []
reads_nothing None = tt
reads_nothing (Some xs) = refl

-- one byte more that ends no line
pub none_more : (bytes : List ℕ) (byte : ℕ) → NoEnd bytes → (byte == 10) ≡ false → NoEnd (bytes ++ byte ∷ [])
none_more [] byte none other = (other, tt)
none_more (b ∷ bytes) byte none other = (none.0, none_more bytes byte none.1 other)
