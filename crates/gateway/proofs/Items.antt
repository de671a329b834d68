-- The items of members, one after the other.
use Rattle.std.proofs.Common.{ℕ, suc, ◌≡◌, ◌+◌, ◌-◌, ◌<◌, ◌∙◌, sym, subst, arith, Bool, Option, List, ◌∷◌, ◌++◌, append_assoc, add-one, drop, drop-cons, get_or, length}
use Rattle.gateway.specs.Answers.{word_item, word_items}
use Rattle.gateway.specs.Views.{member_item, member_items}
use Rattle.gateway.specs.declared.views.MemberView.{MemberView}

-- one item more
pub items_more : (words : ℕ → Option Bool) (word : Option Bool) (member n : ℕ) (text all : List ℕ) → member < n → word ≡ words member
    → text ++ word_items words member (n - member) ≡ all
    → (text ++ word_item member word) ++ word_items words (member + 1) (n - (member + 1)) ≡ all
items_more words word member n text all less is so_far =
    let left : n - member ≡ suc (n - (member + 1)) = omega arith in
    let split : text ++ word_items words member (suc (n - (member + 1))) ≡ all =
    subst (λ (k : ℕ). text ++ word_items words member k ≡ all) left so_far in
    let next : member + 1 ≡ suc member = add-one member in
    rw is (subst (λ (k : ℕ). (text ++ word_item member (words member)) ++ word_items words k (n - (member + 1)) ≡ all) (sym next)
    (append_assoc text (word_item member (words member)) (word_items words (suc member) (n - (member + 1))) ∙ split))

-- a member's item more
pub members_more : (views : List MemberView) (member : ℕ) (view : MemberView) (bytes all : List ℕ) → member < length views → view ≡ get_or views member view
    → bytes ++ member_items member (drop member views) ≡ all
    → (bytes ++ member_item member view) ++ member_items (member + 1) (drop (member + 1) views) ≡ all
members_more views member view bytes all less is so_far =
    let next : member + 1 ≡ suc member = add-one member in
    let cut : drop member views ≡ view ∷ drop (suc member) views =
    subst (λ (first : MemberView). drop member views ≡ first ∷ drop (suc member) views) (sym is) (drop-cons views member view less) in
    let split : bytes ++ member_items member (view ∷ drop (suc member) views) ≡ all =
    subst (λ (rest : List MemberView). bytes ++ member_items member rest ≡ all) cut so_far in
    subst (λ (k : ℕ). (bytes ++ member_item member view) ++ member_items k (drop k views) ≡ all) (sym next)
    (append_assoc bytes (member_item member view) (member_items (suc member) (drop (suc member) views)) ∙ split)
