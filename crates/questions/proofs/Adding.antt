-- What a list has more once records were appended to it.
use Rattle.std.proofs.Common.{◌≡◌, ◌∙◌, sym, ap, List, [], ◌++◌, ◌∷◌, length, drop, append-nil, append_assoc}
use Rattle.std.proofs.Math.Seq.{drop-append_seam}
use Rattle.terms_prelude.specs.Terms.{Record}
use Rattle.questions.specs.Replies.{added}

pub added_is : (xs ys zs : List Record) → zs ≡ xs ++ ys → added xs zs ≡ ys
added_is xs ys zs e = ap (λ (l : List Record). drop (length xs) l) e ∙ drop-append_seam xs ys

pub added_none : (xs : List Record) → added xs xs ≡ []
added_none xs = added_is xs [] xs (sym (append-nil xs))

-- to an empty list all is added
pub added_all : (xs ys : List Record) → xs ≡ [] → added xs ys ≡ ys
added_all xs ys e = ap (λ (l : List Record). drop (length l) ys) e

-- nothing appended
pub appends_none : (xs : List Record) → xs ≡ xs ++ added xs xs
appends_none xs = sym (append-nil xs) ∙ ap (λ (l : List Record). xs ++ l) (sym (added_none xs))

-- what was appended is what is added
pub appends_is : (xs ys zs : List Record) → zs ≡ xs ++ ys → zs ≡ xs ++ added xs zs
appends_is xs ys zs e = e ∙ ap (λ (l : List Record). xs ++ l) (sym (added_is xs ys zs e))

-- appended in two steps
pub appends_both : (xs ys zs front more : List Record) → ys ≡ xs ++ front → zs ≡ ys ++ more → zs ≡ xs ++ (front ++ more)
appends_both xs ys zs front more e f = f ∙ ap (λ (l : List Record). l ++ more) e ∙ append_assoc xs front more

-- two lists appended, once room was made
pub both_added : (first roomy one two xs ys : List Record) → roomy ≡ first → one ≡ roomy ++ xs → two ≡ one ++ ys → two ≡ first ++ (xs ++ ys)
both_added first roomy one two xs ys r e f = appends_both first one two xs ys (e ∙ ap (λ (l : List Record). l ++ xs) r) f

pub two_added : (first roomy one two xs ys : List Record) → roomy ≡ first → one ≡ roomy ++ xs → two ≡ one ++ ys → added first two ≡ xs ++ ys ++ [] ++ []
two_added first roomy one two xs ys r e f =
    added_is first (xs ++ ys) two (both_added first roomy one two xs ys r e f) ∙ sym (append-nil (xs ++ ys ++ []) ∙ append-nil (xs ++ ys))

-- and two more
pub four_added : (first roomy one two three four xs ys zs rest : List Record) → roomy ≡ first → one ≡ roomy ++ xs → two ≡ one ++ ys → three ≡ two ++ zs → four ≡ three ++ rest
    → added first four ≡ xs ++ ys ++ zs ++ rest
four_added first roomy one two three four xs ys zs rest r e f g h =
    added_is first (xs ++ ys ++ zs ++ rest) four
    (appends_both first three four (xs ++ ys ++ zs) rest (appends_both first two three (xs ++ ys) zs (both_added first roomy one two xs ys r e f) g) h)
