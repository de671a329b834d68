-- The text of a transcript, line by line.
use Rattle.std.proofs.Common.{ℕ, ◌≡◌, ◌∙◌, ◌+◌, ◌<◌, ◌∷◌, ◌++◌, [], List, Bool, true, false, get_or, length, take, refl, sym, ap, append-nil, arith, subst}
use Rattle.std.specs.List.{flat_map}
use Rattle.std.proofs.lemmas.List.{take_more}
use Rattle.std.proofs.lemmas.List.Concat.{flat_map-append}
use Rattle.terms_prelude.specs.Terms.{Statement}
use Rattle.transcripts.specs.Lines.{pair_line}

-- the lines behind the first one
abbrev pub behind : List (ℕ × Statement) → List ℕ
behind pairs = flat_map (λ e. 10 ∷ pair_line e) pairs

-- with one more
pub behind_more : (pairs : List (ℕ × Statement)) (i : ℕ) (pair : ℕ × Statement) → pair ≡ get_or pairs i pair → i < length pairs
    → behind (take i pairs) ++ (10 ∷ pair_line pair) ≡ behind (take (i + 1) pairs)
behind_more pairs i pair at within =
    sym (ap behind (take_more pairs i pair within) ∙ flat_map-append (λ e. 10 ∷ pair_line e) (take i pairs) (get_or pairs i pair ∷ [])
    ∙ ap (λ (t : List ℕ). behind (take i pairs) ++ t) (append-nil (10 ∷ pair_line (get_or pairs i pair)) ∙ ap (λ (e : ℕ × Statement). 10 ∷ pair_line e) (sym at)))
