use Rattle.std.proofs.Common.{ℕ, ◌≡◌, ◌∙◌, ◌++◌, sym, ap, subst, arith, List, codes, drop, length, IfSome}
use Rattle.asking.specs.Desks.{IsDeskPlace}
use Rattle.asking.proofs.desks.path_in.Goals as goal

-- the text is what was stripped off, and the path
whole : (text path front : List ℕ) (n : ℕ) → text ≡ front ++ drop n text → path ≡ drop n text → text ≡ front ++ path
whole text path front n cut is = cut ∙ ap (λ (l : List ℕ). front ++ l) (sym is)

pub returns-in-Some-clause-some : goal.returns-in-Some-clause-some
returns-in-Some-clause-some c =
    let strips = c.in-Some.ensures.cases in
    let is : c.args.text.now ≡ codes "unix:" ++ c.in-Some.path.now = whole c.args.text.now c.in-Some.path.now (codes "unix:") strips.0 strips.1.1 strips.2 in
    subst (λ (text : List ℕ). IfSome c.place_at.result (IsDeskPlace text)) (sym is) c.place_at.ensures.some

pub returns-in-Some-clause-none : goal.returns-in-Some-clause-none
returns-in-Some-clause-none c = λ none path has below.
    let strips = c.in-Some.ensures.cases in
    let is : c.args.text.now ≡ codes "unix:" ++ c.in-Some.path.now = whole c.args.text.now c.in-Some.path.now (codes "unix:") strips.0 strips.1.1 strips.2 in
    let same : c.in-Some.path.now ≡ path = ap (drop 5) (sym is ∙ has) in
    let empty : length c.in-Some.path.now ≡ 0 = c.place_at.ensures.none none in
    let long : length c.in-Some.path.now ≡ length path = ap length same in
    omega (arith, below)

pub returns-in-None-clause-none : goal.returns-in-None-clause-none
returns-in-None-clause-none c = λ none path has below. c.in-None.ensures.cases path has
