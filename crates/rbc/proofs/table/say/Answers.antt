use Rattle.std.proofs.Common.{◌≡◌, ℕ, cond, eqb, sym, ap, subst, ◌∙◌}
use Rattle.terms_prelude.specs.Terms.{Place, IsPlace}
use Rattle.rbc.specs.Words.{say_known, known_in, spot_of, touched_known}
use Rattle.rbc.proofs.Cells.{IsHere, known_here, written}
use Rattle.rbc.proofs.table.say.Goals as goal

pub returns-clause-ok : goal.returns-clause-ok
returns-clause-ok c = λ q.
    let p : IsPlace c.args.s.now.place = subst (λ (x : Place). IsPlace x) c.place.ensures c.spot_of-spot.ensures.place in
    let here : IsHere c.args.size.n c.args.s.now.place =
    record { origin = c.requires; round = p.from_one; first = p.first; third = p.third } in
    let spot : c.spot_of-spot.result ≡ spot_of c.args.size.n c.args.s.now.place =
    c.spot_of-spot.ensures.value ∙ ap (λ (x : Place). spot_of c.args.size.n x) c.place.ensures in
    let was : touched_known c.reach.new.self c.spot_of-spot.result ≡ known_in (touched_known c.args.cells.now) c.args.size.n c.args.s.now.place =
    c.reach.ensures.same c.spot_of-spot.result ∙ ap (touched_known c.args.cells.now) spot ∙ sym (known_here (touched_known c.args.cells.now) c.args.size.n c.args.s.now.place here) in
    let same : (i : ℕ) → touched_known c.say.new.self i ≡ cond (eqb i (spot_of c.args.size.n c.args.s.now.place)) (say_known (known_in (touched_known c.args.cells.now) c.args.size.n c.args.s.now.place) c.args.s.now.kind c.args.s.now.value) (touched_known c.args.cells.now i) =
    λ i. c.say.ensures c.spot_of-spot.result c.in_ok-number.ensures.made i ∙ (λ j. cond (eqb i (spot j)) (say_known (was j) c.args.s.now.kind c.args.s.now.value) (c.reach.ensures.same i j)) in
    written (touched_known c.args.cells.now) (touched_known c.say.new.self) c.args.size.n c.args.s.now.place _ here same q
