use Rattle.std.proofs.Common.{◌≡◌, ◌<◌, ◌-◌, ℕ, Option, Some, None, IfSome, IfNone, List, false, get_or, length, arith, sym, ap, subst, ◌∙◌}
use Rattle.std.proofs.lemmas.Bool.{false≢true}
use Rattle.rbc.specs.Words.{Cell, IsAt, touched_made}
use Rattle.rbc.proofs.Touching.{Found, found, unnamed}
use Rattle.rbc.proofs.table.number_of.Goals as goal

pub returns-else-is_at-clause-none : goal.returns-else-is_at-clause-none
returns-else-is_at-clause-none c =
    let within : c.args.spot < length c.args.numbers.now = subst (λ (s : ℕ). s < length c.args.numbers.now) c.from-place.ensures c.if-place-numbers.true in
    let number : c.from-number.result ≡ get_or c.args.numbers.now c.args.spot 0 =
    c.from-number.ensures ∙ ap (λ (s : ℕ). get_or c.args.numbers.now s 0) c.from-place.ensures in
    unnamed c.args.numbers.now c.args.cells.now c.args.spot (record { apart = c.requires.apart; named = c.requires.named }) within
    (λ at. false≢true (sym c.if-is_at.false ∙ c.is_at.ensures.1 (subst (λ (k : ℕ). IsAt c.args.cells.now k c.args.spot) (sym number) at)))

-- what was found, from 0 on
some_found : (cells : List Cell) (spot : ℕ) (result : Option ℕ) → Found cells 0 spot result → IfSome result (λ k. IsAt cells k spot)
some_found cells spot (Some k) f = let same : k - 0 ≡ k = omega arith in subst (λ (n : ℕ). IsAt cells n spot) same f.1
some_found cells spot None f = tt

none_found : (cells : List Cell) (spot : ℕ) (result : Option ℕ) → Found cells 0 spot result → IfNone result (touched_made cells spot ≡ false)
none_found cells spot (Some k) f = tt
none_found cells spot None f = f

pub returns-else-place-numbers-clause-some : goal.returns-else-place-numbers-clause-some
returns-else-place-numbers-clause-some c =
    some_found c.args.cells.now c.args.spot c.search.result
    (subst (λ r. Found c.args.cells.now 0 c.args.spot r) (sym c.search.ensures) (found c.args.cells.now 0 c.args.spot))

pub returns-else-place-numbers-clause-none : goal.returns-else-place-numbers-clause-none
returns-else-place-numbers-clause-none c =
    none_found c.args.cells.now c.args.spot c.search.result
    (subst (λ r. Found c.args.cells.now 0 c.args.spot r) (sym c.search.ensures) (found c.args.cells.now 0 c.args.spot))
