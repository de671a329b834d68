-- Objects of JSON of one member.
use Rattle.std.proofs.Common.{ℕ, ◌≡◌, ◌≤◌, ◌∙◌, List, [], ◌∷◌, Vec, arith, length, rules, sym}
use Rattle.std.specs.Borrow.{Bor}
use Rattle.json.specs.Json.{Json, member, no_members, object}
use Rattle.json.specs.Value.{members_view, value_view}
use Rattle.json.specs.declared.value.Value.{Object, Value, the_lemmas}

-- an object of two members or more isn't one of one
not_alone : {A : Type 0} (all : List (Bor (List ℕ) × Value A)) (name : List ℕ) (value : Json) → 2 ≤ length all
    → object (members_view all) ≡ object (member name value no_members) → ⊥
not_alone [] name value two is = omega (arith, two)
not_alone (one ∷ []) name value two is = omega (arith, two)
not_alone (one ∷ (other ∷ rest)) name value two is =
    let longer : object (member one.0.now (value_view one.1) (member other.0.now (value_view other.1) (members_view rest)))
    ≡ object (member name value no_members) = is in
    cc

view_object : {A : Type 0} (all : Vec (Bor (List ℕ) × Value A) A) → value_view (Object all) ≡ object (members_view all.items)
view_object all = search (rules, the_lemmas)

pub isnt_alone : {A : Type 0} (all : Vec (Bor (List ℕ) × Value A) A) (name : List ℕ) (value : Json) → 2 ≤ length all.items
    → value_view (Object all) ≡ object (member name value no_members) → ⊥
isnt_alone all name value two is = not_alone all.items name value two (sym (view_object all) ∙ is)
