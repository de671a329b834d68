-- Beginnings of lists.
use Rattle.std.proofs.Common.{◌≡◌, ◌≤◌, List, [], ◌∷◌, ◌++◌, length, refl, ap, sym, ◌∙◌, arith, append_assoc}
use mathlib.Core.List.{IsPrefix}

-- a list is its own beginning
pub front_self : {A : Type 0} (xs : List A) → IsPrefix xs xs
front_self [] = ([], refl)
front_self (x ∷ xs) = (let r = front_self xs in r.0, ap (λ ys. x ∷ ys) (front_self xs).1)

-- a beginning of a beginning
pub front_of_front : {A : Type 0} (xs ys zs : List A) → IsPrefix xs ys → IsPrefix ys zs → IsPrefix xs zs
front_of_front xs ys zs p q = (p.0 ++ q.0, sym (append_assoc xs p.0 q.0) ∙ ap (λ l. l ++ q.0) p.1 ∙ q.1)

-- a beginning of what then goes on
pub front_of_more : {A : Type 0} (xs ys more zs : List A) → IsPrefix xs ys → zs ≡ ys ++ more → IsPrefix xs zs
front_of_more xs ys more zs p is = (p.0 ++ more, sym (append_assoc xs p.0 more) ∙ ap (λ l. l ++ more) p.1 ∙ sym is)

-- of two beginnings of one list the longer begins with the other
pub front_of_longer : {A : Type 0} (xs ys all : List A) → IsPrefix xs all → IsPrefix ys all → length xs ≤ length ys → IsPrefix xs ys
front_of_longer [] ys all p q few = (ys, refl)
front_of_longer (x ∷ xs) [] all p q few = absurd (omega arith)
front_of_longer (x ∷ xs) (y ∷ ys) [] p q few = absurd (cc (p.1))
front_of_longer (x ∷ xs) (y ∷ ys) (z ∷ all) p q few =
    let same : x ≡ y = cc (p.1, q.1) in
    let rest = front_of_longer xs ys all (p.0, cc (p.1)) (q.0, cc (q.1)) (omega arith) in
    (rest.0, cc (same, rest.1))

-- a beginning that isn't shorter is all of it
pub front_is_all : {A : Type 0} (xs all : List A) → IsPrefix xs all → length all ≤ length xs → xs ≡ all
front_is_all [] [] p few = refl
front_is_all [] (y ∷ all) p few = absurd (omega arith)
front_is_all (x ∷ xs) [] p few = absurd (cc (p.1))
front_is_all (x ∷ xs) (y ∷ all) p few =
    let rest = front_is_all xs all (p.0, cc (p.1)) (omega arith) in cc (p.1, rest)
