-- What happens at a table, one after the other.
use Rattle.std.proofs.Common.{ℕ, ◌≡◌, ◌≤◌, ◌<◌, ◌+◌, ◌%◌, ◌==◌, arith, refl, suc, subst, sym, List, [], ◌∷◌, ◌++◌}
use Rattle.terms_prelude.specs.Terms.{Hearing, Proposal, Statement}
use Rattle.chances.specs.declared.table.Table.{Table}
use Rattle.chances.specs.Tables.{AllHappen, Answers, Delivers, Delivery, Follows, Happens, HaveProposed, Lie, LieToAll, Lies, Move, Takes, correct_of}

-- what was taken off the link and heard was delivered
pub heard_delivers : (from to place : ℕ) (statement : Statement) (before middle after : Table) → Takes from to place statement before middle
    → to < correct_of before → (to < correct_of middle → Answers to (Hearing from statement) middle after) → Delivers from to place before after
heard_delivers from to place statement before middle after takes there hears = record {
  statement = statement;
  middle = middle;
  takes = takes;
  hears = hears (subst (λ (n : ℕ). to < n) (sym takes.correct) there);
}

-- one member more proposed
pub proposed_more : (member : ℕ) (before middle after : Table) → HaveProposed member before middle
    → Answers member (Proposal 0 (member % 2 == 1)) middle after → HaveProposed (member + 1) before after
proposed_more member before middle after proposed told =
    let next : suc member ≡ member + 1 = omega arith in
    subst (λ (n : ℕ). HaveProposed n before after) next (middle, proposed, told)

pub none_followed : (table : Table) → Follows table table
none_followed table = record { moves = []; happen = refl }

-- one of them
pub one_follows : (move : Move) (before after : Table) → Happens move before after → Follows before after
one_follows move before after happens = record { moves = move ∷ []; happen = (after, happens, refl) }

pub delivery_follows : (from to place : ℕ) (before after : Table) → Delivers from to place before after → Follows before after
delivery_follows from to place before after it = one_follows (Delivery from to place) before after it

pub lie_follows : (liar to : ℕ) (statement : Statement) (before after : Table) → correct_of before ≤ liar → Answers to (Hearing liar statement) before after → Follows before after
lie_follows liar to statement before after liars it = one_follows (Lie liar to statement) before after (liars, it)

pub lies_follow : (liar : ℕ) (statement : Statement) (before after : Table) → correct_of before ≤ liar → Lies liar statement before after → Follows before after
lies_follow liar statement before after liars it = one_follows (LieToAll liar statement) before after (liars, it)

-- one after the other
all_then : (moves more : List Move) (a b c : Table) → AllHappen moves a b → AllHappen more b c → AllHappen (moves ++ more) a c
all_then [] more a b c is rest = subst (λ (t : Table). AllHappen more t c) is rest
all_then (move ∷ moves) more a b c is rest = (is.0, is.1, all_then moves more is.0 b c is.2 rest)

pub follows_then : (a b c : Table) → Follows a b → Follows b c → Follows a c
follows_then a b c first second = record {
  moves = first.moves ++ second.moves;
  happen = all_then first.moves second.moves a b c first.happen second.happen;
}
