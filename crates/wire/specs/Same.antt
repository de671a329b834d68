-- Tests that two lists of statements are the same.
use Rattle.std.specs.Prelude.{◌≡◌, Bool, true, List, refl}
use Rattle.std.specs.Bool.{Decides}
use Rattle.std.proofs.Common.{ap, sym, ◌∙◌}
use Rattle.std.specs.Cmp.{IsEquivalence, decided}
use Rattle.std.specs.Cmp.Lexicographic.{pointwise}
use Rattle.std.proofs.lemmas.Cmp.{lists_equiv}
use Rattle.std.proofs.lemmas.Slice.Eq.{slice_eq-Decides}
use Rattle.terms_prelude.specs.Terms.{Statement, statement_eq}
use Rattle.terms.proofs.Same.{statement_eq-true, statement_eq-same}

abbrev pub same_statements : List Statement → List Statement → Bool
same_statements = pointwise statement_eq

statement_eq-same_if : (s t : Statement) → s ≡ t → statement_eq s t ≡ true
statement_eq-same_if s t e = ap (statement_eq s) (sym e) ∙ statement_eq-same s

decides : (s t : Statement) → Decides (statement_eq s t) (s ≡ t)
decides s t = (statement_eq-true s t, statement_eq-same_if s t)

pub same_equivalence : IsEquivalence same_statements
same_equivalence = lists_equiv (decided statement_eq decides)

-- they are the same exactly where the lists are
pub same_decides : (xs ys : List Statement) → Decides (same_statements xs ys) (xs ≡ ys)
same_decides xs ys = slice_eq-Decides decides xs ys (same_statements xs ys) refl
