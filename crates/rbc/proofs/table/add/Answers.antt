use Rattle.std.proofs.Common.{◌≡◌, ◌<◌, ℕ, List, [], ◌∷◌, ◌++◌, length, set, sym, ap, subst, ◌∙◌}
use Rattle.rbc.specs.Words.{Cell, IsTable, no_known, touched_known}
use Rattle.rbc.proofs.Touching.{room_for, same_with, table_with}
use Rattle.rbc.proofs.table.add.Goals as goal

-- the cell that is added
abbrev cell : ℕ → Cell
cell spot = record { spot = spot; known = no_known }

pub name-requires : goal.name-requires
name-requires c =
    let number : c.len-number.result ≡ length c.args.cells.now.items =
    c.len-number.ensures ∙ sym c.as_slice.ensures.len ∙ ap (λ (s : List Cell). length s) (c.as_slice.ensures.value ∙ c.make_room.ensures.same) in
    subst (λ (k : ℕ). k < 8000) (sym number) (room_for c.args.numbers.now.items c.args.cells.now.items (cell c.args.spot) c.requires.table c.requires.few c.requires.unmade)

pub returns-clause-table : goal.returns-clause-table
returns-clause-table c =
    let slice : c.as_slice.result.now ≡ c.args.cells.now.items = c.as_slice.ensures.value ∙ c.make_room.ensures.same in
    let number : c.len-number.result ≡ length c.args.cells.now.items = c.len-number.ensures ∙ sym c.as_slice.ensures.len ∙ ap (λ (s : List Cell). length s) slice in
    let items : c.push_reserved.new.self.items ≡ c.args.cells.now.items ++ cell c.args.spot ∷ [] =
    c.push_reserved.ensures.items ∙ (λ i. c.make_room.ensures.same i ++ record { spot = c.args.spot; known = c.nothing.ensures i } ∷ []) in
    let names : c.name.new.numbers.items ≡ set c.lengthen.new.numbers.items c.args.spot (length c.args.cells.now.items) =
    c.name.ensures ∙ ap (λ (k : ℕ). set c.lengthen.new.numbers.items c.args.spot k) number in
    let table : IsTable c.lengthen.new.numbers.items c.args.cells.now.items = subst (λ (s : List Cell). IsTable c.lengthen.new.numbers.items s) slice c.in_ok-lengthen.ensures in
    subst (λ (s : List Cell). IsTable c.name.new.numbers.items s) (sym items)
    (subst (λ (n : List ℕ). IsTable n (c.args.cells.now.items ++ cell c.args.spot ∷ [])) (sym names)
    (table_with c.lengthen.new.numbers.items c.args.cells.now.items (cell c.args.spot) table c.requires.few c.requires.unmade))

pub returns-clause-same : goal.returns-clause-same
returns-clause-same c = λ other.
    ap (λ s. touched_known s other) (c.push_reserved.ensures.items ∙ (λ i. c.make_room.ensures.same i ++ record { spot = c.args.spot; known = c.nothing.ensures i } ∷ []))
    ∙ same_with c.args.cells.now.items c.args.spot other
