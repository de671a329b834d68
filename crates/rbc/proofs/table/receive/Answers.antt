use Rattle.std.proofs.Common.{◌≡◌, ℕ, cond, eqb, sym, ap, subst, ◌∙◌}
use Rattle.terms_prelude.specs.Terms.{Place, IsPlace}
use Rattle.rbc.specs.Words.{Known, Receives, known_in, spot_of, touched_known}
use Rattle.rbc.proofs.Cells.{IsHere, known_here, written}
use Rattle.rbc.proofs.table.receive.Goals as goal
use Rattle.rbc.proofs.table.receive.Goals.{After-receive}

-- the place has a spot
here : (c : After-receive) → IsHere c.args.size.n c.args.s.now.place
here c =
    let p : IsPlace c.args.s.now.place = subst (λ (x : Place). IsPlace x) c.place.ensures c.spot_of-spot.ensures.place in
    record { origin = c.requires.origin; round = p.from_one; first = p.first; third = p.third }

-- which is this
spot : (c : After-receive) → c.spot_of-spot.result ≡ spot_of c.args.size.n c.args.s.now.place
spot c = c.spot_of-spot.ensures.value ∙ ap (λ (x : Place). spot_of c.args.size.n x) c.place.ensures

-- what was known of it
was : (c : After-receive) → touched_known c.reach.new.self c.spot_of-spot.result ≡ known_in (touched_known c.args.cells.now) c.args.size.n c.args.s.now.place
was c =
    c.reach.ensures.same c.spot_of-spot.result ∙ ap (touched_known c.args.cells.now) (spot c)
    ∙ sym (known_here (touched_known c.args.cells.now) c.args.size.n c.args.s.now.place (here c))

-- and is
is : (c : After-receive) → touched_known c.receive.new.self c.spot_of-spot.result ≡ known_in (touched_known c.receive.new.self) c.args.size.n c.args.s.now.place
is c =
    ap (touched_known c.receive.new.self) (spot c)
    ∙ sym (known_here (touched_known c.receive.new.self) c.args.size.n c.args.s.now.place (here c))

pub returns-clause-taken : goal.returns-clause-taken
returns-clause-taken c =
    subst (λ (x : Known). Receives c.args.size c.args.from c.args.s.now x (known_in (touched_known c.receive.new.self) c.args.size.n c.args.s.now.place) c.receive.result) (was c)
    (subst (λ (x : Known). Receives c.args.size c.args.from c.args.s.now (touched_known c.reach.new.self c.spot_of-spot.result) x c.receive.result) (is c)
    (c.receive.ensures.taken c.spot_of-spot.result c.in_ok-number.ensures.made))

pub returns-clause-others : goal.returns-clause-others
returns-clause-others c = λ q.
    let same : (i : ℕ) → touched_known c.receive.new.self i
    ≡ cond (eqb i (spot_of c.args.size.n c.args.s.now.place)) (known_in (touched_known c.receive.new.self) c.args.size.n c.args.s.now.place) (touched_known c.args.cells.now i) =
    λ i. c.receive.ensures.others c.spot_of-spot.result c.in_ok-number.ensures.made i ∙ (λ j. cond (eqb i (spot c j)) (is c j) (c.reach.ensures.same i j)) in
    written (touched_known c.args.cells.now) (touched_known c.receive.new.self) c.args.size.n c.args.s.now.place _ (here c) same q
