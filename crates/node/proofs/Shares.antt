-- Parts of a group, and what came of them.
use Rattle.std.proofs.Common.{eqb-true, ◌≡◌, ℕ, zero, suc, arith, Bool, true, false, ◌&&◌, ◌==◌, List, [], ◌∷◌, ◌++◌, refl, sym, ap, subst, ◌∙◌, append_assoc, append-nil, inl, inr, ⊎_elim, ◌<◌, length, length-append, Result, Ok, Err}
use Rattle.std.specs.List.{All}
use Rattle.std.proofs.lemmas.List.{map-append}
use Rattle.std.proofs.lemmas.List.Elements.{All-append}
use Rattle.terms_prelude.specs.Terms.{Statement, statement_eq}
use Rattle.terms.proofs.Same.{statement_eq-true}
use Rattle.rounds.specs.declared.tosses.Toss.{Toss}
use Rattle.member.specs.Words.{hearing_of, hearings}
use Rattle.member.specs.declared.fault.MemberFault.{MemberFault}
use Rattle.node.specs.Groups.{heard_from}
use Rattle.node.specs.Accounts.{Group}
use Rattle.node.specs.Lines.{HasCome, WasRefused, is_of, are_of}
use Rattle.node.specs.Parts.{IsPartOf, AreParts}
use Rattle.node.specs.declared.line.Part.{Part}

-- a part of what is then the front of something longer
longer_whole : {X : Type 0} (part whole more : List X) → IsPartOf part whole → IsPartOf part (whole ++ more)
longer_whole part whole more is = record {
  before = is.before;
  behind = is.behind ++ more;
  is = ap (λ l. is.before ++ l) (sym (append_assoc part is.behind more)) ∙ sym (append_assoc is.before (part ++ is.behind) more) ∙ ap (λ l. l ++ more) is.is;
}

parts_of_longer : (parts : List Part) (whole more : List (ℕ × Statement × Toss)) → AreParts parts whole → AreParts parts (whole ++ more)
parts_of_longer parts whole more are = λ k d lt. longer_whole _ whole more (are k d lt)

-- one part more, behind the others
pub one_part_more : (parts : List Part) (part : Part) (whole : List (ℕ × Statement × Toss)) → AreParts parts whole → AreParts (parts ++ part ∷ []) (whole ++ part.events.items)
one_part_more parts part whole are =
    All-append (λ (p : Part). IsPartOf p.events.items (whole ++ part.events.items)) parts (part ∷ []) (parts_of_longer parts whole part.events.items are) alone
  where
    last : IsPartOf part.events.items (whole ++ part.events.items)
    last = record { before = whole; behind = []; is = ap (λ l. whole ++ l) (append-nil part.events.items) }

    alone : AreParts (part ∷ []) (whole ++ part.events.items)
    alone zero d lt = last
    alone (suc k) d lt = absurd (omega (arith, lt))

-- a part of a part
part_of_part : {X : Type 0} (part mid whole : List X) → IsPartOf part mid → IsPartOf mid whole → IsPartOf part whole
part_of_part part mid whole one two = record {
  before = two.before ++ one.before;
  behind = one.behind ++ two.behind;
  is = append_assoc two.before one.before (part ++ (one.behind ++ two.behind))
      ∙ ap (λ l. two.before ++ (one.before ++ l)) (sym (append_assoc part one.behind two.behind))
      ∙ ap (λ l. two.before ++ l) (sym (append_assoc one.before (part ++ one.behind) two.behind))
      ∙ ap (λ l. two.before ++ (l ++ two.behind)) one.is ∙ two.is;
}

-- a part as it is heard
heard_part : (part whole : List (ℕ × Statement × Toss)) → IsPartOf part whole → IsPartOf (hearings part) (hearings whole)
heard_part part whole is = record {
  before = hearings is.before;
  behind = hearings is.behind;
  is = ap (λ l. hearings is.before ++ l) (sym (map-append hearing_of part is.behind)) ∙ sym (map-append hearing_of is.before (part ++ is.behind)) ∙ ap hearings is.is;
}

-- where there is a part there is a whole
some_of_whole : {X : Type 0} (part whole : List X) → IsPartOf part whole → 0 < length part → 0 < length whole
some_of_whole part whole is some = let all = ap length is.is in omega (arith, some, all, length-append is.before (part ++ is.behind), length-append part is.behind)

-- what came of a group came of each part of it
pub came_of_part : (D : Type 0) (part whole : List (ℕ × Statement × Toss)) (outcome : Result (List Group) MemberFault) → IsPartOf part whole → HasCome D (hearings whole) outcome → HasCome D (hearings part) outcome
came_of_part D part whole (Ok after) is came = λ some.
    let was = came (some_of_whole (hearings part) (hearings whole) (heard_part part whole is) some) in
    record { base = was.base; group = was.group; ends = was.ends; part = part_of_part (hearings part) (hearings whole) was.group (heard_part part whole is) was.part }
came_of_part D part whole (Err fault) is came = ⊎_elim (λ refused. inl (weaker refused)) (λ memory. inr memory) came
  where
    weaker : WasRefused D (hearings whole) fault → WasRefused D (hearings part) fault
    weaker came = record {
      group = came.group;
      part = part_of_part (hearings part) (hearings whole) came.group (heard_part part whole is) came.part;
      old = came.old;
      new = came.new;
      refuses = came.refuses;
    }

-- a whole is a part of itself
pub whole_is_part : {X : Type 0} (whole : List X) → IsPartOf whole whole
whole_is_part whole = record { before = []; behind = []; is = append-nil whole }

both : (a b : Bool) → (a && b) ≡ true → (a ≡ true) × (b ≡ true)
both true b e = (refl, e)
both false b e = cc

-- one that is heard from the peer
is_hearing : (one : ℕ × Statement × Toss) (peer : ℕ) (event : Statement × Toss) → is_of one peer event ≡ true → hearing_of one ≡ (peer, event.0, event.1.0)
is_hearing one peer event is =
    let b = both (one.0 == peer) _ is in
    let d = both (statement_eq one.1 event.0) _ b.1 in
    let from : one.0 ≡ peer = eqb-true one.0 peer b.0 in
    let said : one.1 ≡ event.0 = statement_eq-true one.1 event.0 d.0 in
    let toss : one.2.0 ≡ event.1.0 = eqb-true one.2.0 event.1.0 d.1 in
    λ i. (from i, said i, toss i)

pub are_heard : (heard : List (ℕ × Statement × Toss)) (peer : ℕ) (events : List (Statement × Toss)) → are_of heard peer events ≡ true → hearings heard ≡ heard_from peer events
are_heard [] peer [] is = refl
are_heard [] peer (event ∷ events) is = cc
are_heard (one ∷ heard) peer [] is = cc
are_heard (one ∷ heard) peer (event ∷ events) is =
    let b = both (is_of one peer event) (are_of heard peer events) is in
    λ i. is_hearing one peer event b.0 i ∷ are_heard heard peer events b.1 i

-- what holds of all holds of the first, and of the others
pub first_of_all : {X : Type 0} (P : X → Type 0) (x : X) (all others : List X) → all ≡ x ∷ others → All P all → P x
first_of_all P x all others is holds = (subst (λ l. All P l) is holds) 0 x (omega arith)

pub others_of_all : {X : Type 0} (P : X → Type 0) (x : X) (all others : List X) → all ≡ x ∷ others → All P all → All P others
others_of_all P x all others is holds = λ k d lt. (subst (λ l. All P l) is holds) (suc k) d (omega (arith, lt))

-- what came of a group came of all of its parts
pub came_of_all : (D : Type 0) (parts : List Part) (whole : List (ℕ × Statement × Toss)) (outcome : Result (List Group) MemberFault) → AreParts parts whole → HasCome D (hearings whole) outcome
    → All (λ (part : Part). HasCome D (hearings part.events.items) outcome) parts
came_of_all D parts whole outcome are came = λ k d lt. came_of_part D _ whole outcome (are k d lt) came
