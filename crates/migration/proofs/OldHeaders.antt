-- A header of version 1 is one of version 2, but for the byte that tells the version.
use Rattle.std.proofs.Common.{◌≡◌, ℕ, zero, suc, List, [], ◌∷◌, get_or, take, slice_set, codes, refl, sym, ◌∙◌, ap, arith}
use Rattle.terms_prelude.specs.Terms.{Header}
use Rattle.journal.proofs.Headers.{same_header as same_new}
use Rattle.migration.specs.Words.{header_text, old_header_text, IsOldHeader}

-- with the byte of version 2
abbrev pub renewed : List ℕ → List ℕ
renewed b = slice_set b 7 50

pub renewed_text : (h : Header) → renewed (old_header_text h) ≡ header_text h
unfolding old_header_text header_text
renewed_text h = refl

pub version_of : (h : Header) → get_or (old_header_text h) 7 0 ≡ 49
unfolding old_header_text
version_of h = refl

pub mark_of : (h : Header) → take 8 (old_header_text h) ≡ codes "BRACHAJ1"
unfolding old_header_text
mark_of h = refl

-- and with its own byte again
pub again : (b : List ℕ) (k x : ℕ) → get_or b k 0 ≡ 49 → slice_set (slice_set b k x) k 49 ≡ b
again [] k x is = absurd (omega (arith, is))
again (a ∷ b) zero x is = ap (λ (n : ℕ). n ∷ b) (sym is)
again (a ∷ b) (suc k) x is = ap (λ (l : List ℕ). a ∷ l) (again b k x is)

text_again : (h : Header) → slice_set (header_text h) 7 49 ≡ old_header_text h
unfolding old_header_text header_text
text_again h = refl

pub from_renewed : (b : List ℕ) (h : Header) → get_or b 7 0 ≡ 49 → renewed b ≡ header_text h → b ≡ old_header_text h
from_renewed b h version new = sym (again b 7 50 version) ∙ ap (λ (l : List ℕ). slice_set l 7 49) new ∙ text_again h

pub into_renewed : (b : List ℕ) (h : Header) → b ≡ old_header_text h → renewed b ≡ header_text h
into_renewed b h same = ap renewed same ∙ renewed_text h

-- two headers with one text are one
pub same_header : (h k : Header) → IsOldHeader h → IsOldHeader k → old_header_text h ≡ old_header_text k → h ≡ k
same_header h k lawful lawful' same =
    same_new h k lawful.lawful lawful'.lawful (sym (renewed_text h) ∙ ap renewed same ∙ renewed_text k)
