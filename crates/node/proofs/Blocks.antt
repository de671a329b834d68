-- Entries in blocks, one block after another.
use Rattle.std.proofs.Common.{ℕ, zero, suc, ◌≡◌, ◌<◌, ◌≤◌, ◌+◌, ◌-◌, ◌%◌, List, [], ◌∷◌, ◌++◌, length, drop, get_or, cond, Bool, true, false, ◌==◌, ne_eqb, refl, sym, ap, ◌∙◌, arith, append-nil, append_assoc, length-append, slice_get}
use Rattle.std.proofs.lemmas.List.{drop_more, drop_all, get_or-set_other, get_or-set_same}
use Rattle.std.proofs.Math.ListN.{set}
use Rattle.terms_prelude.specs.Terms.{Statement}
use Rattle.questions.specs.Words.{Entry, Heard, Proposed, link_part}
use Rattle.node.specs.Histories.{joined}
use Rattle.node.specs.Words.{AreMarkedIn, heard_on, same_statements}

-- one block more
pub joined-snoc : (blocks : List (List Entry)) (block : List Entry) → joined (blocks ++ block ∷ []) ≡ joined blocks ++ block
joined-snoc [] block = append-nil block
joined-snoc (b ∷ blocks) block = ap (λ (l : List Entry). b ++ l) (joined-snoc blocks block) ∙ sym (append_assoc b (joined blocks) block)

-- a block that is begun is empty, and the one before it is full
pub begun : (full more : List (List Entry)) (last next : List Entry) → more ≡ full ++ last ∷ [] → next ≡ [] → joined more ++ next ≡ joined full ++ last
begun full more last next is none =
    (λ i. joined (is i) ++ none i) ∙ append-nil (joined (full ++ last ∷ [])) ∙ joined-snoc full last

-- the first block that is left, and those behind it
pub joined-drop : (blocks : List (List Entry)) (i : ℕ) (block : List Entry) → i < length blocks → joined (drop i blocks) ≡ (get_or blocks i block) ++ joined (drop (i + 1) blocks)
joined-drop blocks i block lt = ap joined (drop_more blocks i block lt)

get-left : (xs ys : List Entry) (k : ℕ) → k < length xs → slice_get (xs ++ ys) k ≡ slice_get xs k
get-left [] ys k lt = absurd (omega (arith, lt))
get-left (x ∷ xs) ys zero lt = refl
get-left (x ∷ xs) ys (suc k) lt = get-left xs ys k (omega (arith, lt))

get-right : (xs ys : List Entry) (k : ℕ) → length xs ≤ k → slice_get (xs ++ ys) k ≡ slice_get ys (k - length xs)
get-right [] ys k le = ap (slice_get ys) (omega arith)
get-right (x ∷ xs) ys zero le = absurd (omega (arith, le))
get-right (x ∷ xs) ys (suc k) le = get-right xs ys k (omega (arith, le)) ∙ ap (slice_get ys) (omega arith)

-- the blocks that are left and the last one: the block that is next, and what is behind it
split_left : (blocks : List (List Entry)) (i : ℕ) (block : List Entry) (last : List Entry) → block ≡ get_or blocks i block → i < length blocks
    → joined (drop i blocks) ++ last ≡ block ++ (joined (drop (i + 1) blocks) ++ last)
split_left blocks i block last is lt =
    ap (λ (l : List Entry). l ++ last) (joined-drop blocks i block lt ∙ ap (λ (b : List Entry). b ++ joined (drop (i + 1) blocks)) (sym is))
    ∙ append_assoc block (joined (drop (i + 1) blocks)) last

-- within the block that is next
pub within_block : (blocks : List (List Entry)) (i left : ℕ) (block : List Entry) (last : List Entry) → block ≡ get_or blocks i block → i < length blocks → left < length block
    → slice_get (joined (drop i blocks) ++ last) left ≡ slice_get block left
within_block blocks i left block last is lt here =
    ap (λ (l : List Entry). slice_get l left) (split_left blocks i block last is lt) ∙ get-left block (joined (drop (i + 1) blocks) ++ last) left here

-- behind it
pub behind_block : (blocks : List (List Entry)) (i left : ℕ) (block : List Entry) (last : List Entry) → block ≡ get_or blocks i block → i < length blocks → length block ≤ left
    → slice_get (joined (drop (i + 1) blocks) ++ last) (left - length block) ≡ slice_get (joined (drop i blocks) ++ last) left
behind_block blocks i left block last is lt there =
    sym (ap (λ (l : List Entry). slice_get l left) (split_left blocks i block last is lt) ∙ get-right block (joined (drop (i + 1) blocks) ++ last) left there)

-- and how many are left then
pub length_left : (blocks : List (List Entry)) (i : ℕ) (block : List Entry) (last : List Entry) → block ≡ get_or blocks i block → i < length blocks
    → length (joined (drop i blocks) ++ last) ≡ length block + length (joined (drop (i + 1) blocks) ++ last)
length_left blocks i block last is lt =
    ap length (split_left blocks i block last is lt) ∙ length-append block (joined (drop (i + 1) blocks) ++ last)

-- once no block is left there is the last one
pub none_left : (blocks : List (List Entry)) (i left : ℕ) (last : List Entry) → length blocks ≤ i → slice_get (joined (drop i blocks) ++ last) left ≡ slice_get last left
none_left blocks i left last le = ap (λ (l : List (List Entry)). slice_get (joined l ++ last) left) (drop_all i blocks le)

-- what two histories in turn have of a question
pub heard_on-append : (question : ℕ) (xs ys : List Entry) → heard_on question (xs ++ ys) ≡ heard_on question xs ++ heard_on question ys
heard_on-append question [] ys = refl
heard_on-append question (Proposed q b toss ∷ xs) ys = heard_on-append question xs ys
heard_on-append question (Heard from s toss ∷ xs) ys = step (s.place.question == question) (heard_on-append question xs ys)
  where
    step : (b : Bool) → heard_on question (xs ++ ys) ≡ heard_on question xs ++ heard_on question ys
        → cond b ((from, s) ∷ heard_on question (xs ++ ys)) (heard_on question (xs ++ ys)) ≡ cond b ((from, s) ∷ heard_on question xs) (heard_on question xs) ++ heard_on question ys
    step true h = ap (λ (l : List (ℕ × Statement)). (from, s) ∷ l) h
    step false h = h

-- entries whose questions are marked, and one more whose question is
pub marked : (table : List Bool) (question : ℕ) (past : List Entry) (entry : Entry) → question % 4096 < length table
    → ((other : ℕ) → (other ≡ question → ⊥) → heard_on other (entry ∷ []) ≡ []) → AreMarkedIn table past
    → AreMarkedIn (set table (question % 4096) true) (past ++ entry ∷ [])
marked table question past entry lt alone were other clear =
    heard_on-append other past (entry ∷ []) ∙ (λ i. were other (sym (get_or-set_other table (question % 4096) (other % 4096) true false apart) ∙ clear) i ++ alone other same i)
  where
    apart : other % 4096 ≡ question % 4096 → ⊥
    apart e =
        let no : true ≡ false = sym (get_or-set_same table (question % 4096) true false lt) ∙ ap (λ (k : ℕ). get_or (set table (question % 4096) true) k false) (sym e) ∙ clear in
        cc

    same : other ≡ question → ⊥
    same e = apart (ap (λ (k : ℕ). k % 4096) e)

-- and of a link
pub link_part-append : (peer : ℕ) (xs ys : List Entry) → link_part peer (xs ++ ys) ≡ link_part peer xs ++ link_part peer ys
link_part-append peer [] ys = refl
link_part-append peer (Proposed q b toss ∷ xs) ys = link_part-append peer xs ys
link_part-append peer (Heard from s toss ∷ xs) ys = step (from == peer) (link_part-append peer xs ys)
  where
    step : (b : Bool) → link_part peer (xs ++ ys) ≡ link_part peer xs ++ link_part peer ys
        → cond b (s ∷ link_part peer (xs ++ ys)) (link_part peer (xs ++ ys)) ≡ cond b (s ∷ link_part peer xs) (link_part peer xs) ++ link_part peer ys
    step true h = ap (λ (l : List Statement). s ∷ l) h
    step false h = h

-- what was heard of a question, a block further
pub heard_turn : (question : ℕ) (blocks : List (List Entry)) (i : ℕ) (block : List Entry) (items : List Entry) (before after whole : List (ℕ × Statement))
    → block ≡ get_or blocks i block → i < length blocks → items ≡ block → after ≡ before ++ heard_on question items
    → before ++ heard_on question (joined (drop i blocks)) ≡ whole → after ++ heard_on question (joined (drop (i + 1) blocks)) ≡ whole
heard_turn question blocks i block items before after whole is lt same longer was =
    let rest : List Entry = joined (drop (i + 1) blocks) in
    let all : joined (drop i blocks) ≡ items ++ rest = joined-drop blocks i block lt ∙ (λ k. sym (is) k ++ rest) ∙ ap (λ (l : List Entry). l ++ rest) (sym same) in
    ap (λ (l : List (ℕ × Statement)). l ++ heard_on question rest) longer
    ∙ append_assoc before (heard_on question items) (heard_on question rest)
    ∙ ap (λ (l : List (ℕ × Statement)). before ++ l) (sym (heard_on-append question items rest) ∙ ap (heard_on question) (sym all))
    ∙ was

-- and behind the last one
-- once no block is left, all was heard
pub heard_all : (question : ℕ) (blocks : List (List Entry)) (i : ℕ) (before : List (ℕ × Statement)) → length blocks ≤ i
    → before ++ heard_on question (joined (drop i blocks)) ≡ heard_on question (joined blocks) → before ≡ heard_on question (joined blocks)
heard_all question blocks i before le was =
    sym (append-nil before) ∙ ap (λ (l : List (List Entry)). before ++ heard_on question (joined l)) (sym (drop_all i blocks le)) ∙ was

pub heard_end : (question : ℕ) (blocks : List (List Entry)) (i : ℕ) (last before after : List (ℕ × Statement))
    → length blocks ≤ i → after ≡ before ++ last
    → before ++ heard_on question (joined (drop i blocks)) ≡ heard_on question (joined blocks) → after ≡ heard_on question (joined blocks) ++ last
heard_end question blocks i last before after le longer was =
    longer ∙ ap (λ (l : List (ℕ × Statement)). l ++ last) (heard_all question blocks i before le was)

-- the link part of what is left: that of the block that is next, and that of what is behind it
pub link_left : (peer : ℕ) (blocks : List (List Entry)) (i : ℕ) (block : List Entry) (items last : List Entry) → block ≡ get_or blocks i block → i < length blocks → items ≡ block
    → link_part peer (joined (drop i blocks) ++ last) ≡ link_part peer items ++ link_part peer (joined (drop (i + 1) blocks) ++ last)
link_left peer blocks i block items last is lt same =
    ap (link_part peer) (split_left blocks i block last is lt)
    ∙ link_part-append peer block (joined (drop (i + 1) blocks) ++ last)
    ∙ ap (λ (l : List Entry). link_part peer l ++ link_part peer (joined (drop (i + 1) blocks) ++ last)) (sym same)

-- once no block is left it is that of the last one
pub link_end : (peer : ℕ) (blocks : List (List Entry)) (i : ℕ) (last : List Entry) → length blocks ≤ i → link_part peer (joined (drop i blocks) ++ last) ≡ link_part peer last ++ []
link_end peer blocks i last le =
    ap (λ (l : List (List Entry)). link_part peer (joined l ++ last)) (drop_all i blocks le) ∙ sym (append-nil (link_part peer last))

pub none_same : (statements : List Statement) → same_statements [] statements ≡ (length statements == 0)
none_same [] = refl
none_same (s ∷ statements) = sym (ne_eqb (length (s ∷ statements)) 0 (λ z. omega (arith, z)))
