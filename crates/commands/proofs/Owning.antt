-- The pieces of the words for whose journal a file is.
use Rattle.std.proofs.Common.{ℕ, ◌≡◌, ◌==◌, refl, codes, List, ◌++◌}
use Rattle.std.specs.Fmt.{decimal}
use Rattle.terms_prelude.specs.Terms.{Header}
use Rattle.commands.specs.Owners.{header_words, unless, differences, long_words, other_words, owner_words}

pub header_pieces : (h : Header) (cluster n t questions me : ℕ) → cluster ≡ h.cluster → n ≡ h.size.n → t ≡ h.size.t → questions ≡ h.size.questions → me ≡ h.me
    → codes "cluster " ++ (decimal cluster ++ (codes " n " ++ (decimal n ++ (codes " t " ++ (decimal t
    ++ (codes " questions " ++ (decimal questions ++ (codes " member " ++ decimal me)))))))) ≡ header_words h
header_pieces h cluster n t questions me a b c d e = rw (a, b, c, d, e) refl

pub differing : (a b : Header) (cluster n t questions me : List ℕ)
    → cluster ≡ unless (a.cluster == b.cluster) (codes " cluster") → n ≡ unless (a.size.n == b.size.n) (codes " n")
    → t ≡ unless (a.size.t == b.size.t) (codes " t") → questions ≡ unless (a.size.questions == b.size.questions) (codes " questions")
    → me ≡ unless (a.me == b.me) (codes " member")
    → cluster ++ (n ++ (t ++ (questions ++ me))) ≡ differences a b
differing x y cluster n t questions me a b c d e = rw (a, b, c, d, e) refl

pub other_pieces : (found asked : Header) (one other more : List ℕ) → one ≡ header_words found → other ≡ header_words asked → more ≡ differences found asked
    → codes "of " ++ (one ++ (codes ", and not of " ++ (other ++ (codes ":" ++ more)))) ≡ other_words found asked
other_pieces found asked one other more a b c = rw (a, b, c) refl

pub owner_pieces : (h : Header) (me cluster count : ℕ) (more : List ℕ) → me ≡ h.me → cluster ≡ h.cluster → more ≡ unless (count == 1) (codes "s")
    → codes "the journal of member " ++ (decimal me ++ (codes " of cluster " ++ (decimal cluster ++ (codes " with "
    ++ (decimal count ++ (codes " record" ++ more)))))) ≡ owner_words h count
owner_pieces h me cluster count more a b c = rw (a, b, c) refl

pub long_pieces : (h : Header) (me cluster length : ℕ) → me ≡ h.me → cluster ≡ h.cluster
    → codes "begins as the journal of member " ++ (decimal me ++ (codes " of cluster " ++ (decimal cluster ++ (codes " and has "
    ++ (decimal length ++ codes " bytes"))))) ≡ long_words h length
long_pieces h me cluster length a b = rw (a, b) refl
