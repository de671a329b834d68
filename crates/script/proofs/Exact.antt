-- What words, lines and texts say, they say in one way.
use Rattle.std.proofs.Common.{ℕ, ◌≡◌, ◌+◌, ◌*◌, ◌<◌, refl, sym, ap, ◌∙◌, subst, arith, true, false, cond, eqb, Some, None, List, [], ◌∷◌, length, get_or, codes}
use Rattle.disk.specs.declared.Pick.TheVariants.{Kept, Lost, Fill}
use Rattle.sim.specs.declared.events.Which.TheVariants.{Next, At}
use Rattle.script.specs.Words.{Verb, IsMember, IsCount, IsLong, IsGroupSize, IsBit, IsWhich, IsFuse, ArePick, AreMembers, ScriptStep, verb_name, One, Two, Three, SaysBehind, SaysStep}
use Rattle.script.specs.declared.step.Verb.TheVariants as verb
use Rattle.numerals.specs.Numbers.{IsNumber, IsBelow, IsHexOf}

-- a form that a thing has at most once
abbrev pub IsExact : {A B : Type 0} → (A → B → Type 0) → Type 0
IsExact {A} {B} Form = (a : A) (x y : B) → Form a x → Form a y → x ≡ y

pub one_number : IsExact IsNumber
one_number w x y h g = sym h.value ∙ g.value

pub one_below : (bits : ℕ) → IsExact (IsBelow bits)
one_below bits w x y h g = one_number w x y h.number_is g.number_is

pub one_group_size : IsExact IsGroupSize
one_group_size w x y h g = one_number w x y h.number_is g.number_is

pub one_bit : IsExact IsBit
one_bit w false false h g = refl
one_bit w false true h g = let e = one_number w 0 1 h g in absurd (omega arith)
one_bit w true false h g = let e = one_number w 1 0 h g in absurd (omega arith)
one_bit w true true h g = refl

next_is_no_number : (k : ℕ) → IsLong (codes "next") k → ⊥
next_is_no_number k h = let l = h.number_is.digits_are.1.0 in absurd (omega arith)

off_is_no_number : (k : ℕ) → IsLong (codes "off") k → ⊥
off_is_no_number k h = let l = h.number_is.digits_are.1.0 in absurd (omega arith)

pub one_which : IsExact IsWhich
one_which w Next Next h g = refl
one_which w Next (At k) h g = absurd (next_is_no_number k (subst (λ (v : List ℕ). IsLong v k) h g))
one_which w (At k) Next h g = absurd (next_is_no_number k (subst (λ (v : List ℕ). IsLong v k) g h))
one_which w (At k) (At j) h g = ap (λ (i : ℕ). At i) (one_below 64 w k j h g)

pub one_fuse : IsExact IsFuse
one_fuse w None None h g = refl
one_fuse w None (Some k) h g = absurd (off_is_no_number k (subst (λ (v : List ℕ). IsLong v k) h g))
one_fuse w (Some k) None h g = absurd (off_is_no_number k (subst (λ (v : List ℕ). IsLong v k) g h))
one_fuse w (Some k) (Some j) h g = ap (λ (i : ℕ). Some i) (one_below 64 w k j h g)

pub one_bytes : IsExact IsHexOf
one_bytes w x y h g = let a = h.decoded in let b = g.decoded in cc

-- the first byte of the first word
first_byte : List (List ℕ) → ℕ
first_byte words = get_or (get_or words 0 []) 0 0

differ : (a b : List (List ℕ)) → first_byte a < first_byte b → a ≡ b → ⊥
differ a b h e = let f = ap first_byte e in absurd (omega arith)

pub one_pick : IsExact ArePick
unfolding first_byte
one_pick ws Kept Kept h g = refl
one_pick ws Kept Lost h g = absurd (differ (codes "kept" ∷ []) (codes "lost" ∷ []) (omega arith) (sym h ∙ g))
one_pick ws Kept (Fill b) h g = absurd (differ (codes "fill" ∷ g.0 ∷ []) (codes "kept" ∷ []) (omega arith) (sym g.1 ∙ h))
one_pick ws Lost Kept h g = absurd (differ (codes "kept" ∷ []) (codes "lost" ∷ []) (omega arith) (sym g ∙ h))
one_pick ws Lost Lost h g = refl
one_pick ws Lost (Fill b) h g = absurd (differ (codes "fill" ∷ g.0 ∷ []) (codes "lost" ∷ []) (omega arith) (sym g.1 ∙ h))
one_pick ws (Fill a) Kept h g = absurd (differ (codes "fill" ∷ h.0 ∷ []) (codes "kept" ∷ []) (omega arith) (sym h.1 ∙ g))
one_pick ws (Fill a) Lost h g = absurd (differ (codes "fill" ∷ h.0 ∷ []) (codes "lost" ∷ []) (omega arith) (sym h.1 ∙ g))
one_pick ws (Fill a) (Fill b) h g =
    let e : codes "fill" ∷ h.0 ∷ [] ≡ codes "fill" ∷ g.0 ∷ [] = sym h.1 ∙ g.1 in
    let f : h.0 ≡ g.0 = cc in
    let i : a ∷ [] ≡ b ∷ [] = one_bytes h.0 (a ∷ []) (b ∷ []) h.2 (subst (λ (v : List ℕ). IsHexOf v (b ∷ [])) (sym f) g.2) in
    let j : a ≡ b = cc in
    ap (λ (x : ℕ). Fill x) j

pub one_members : IsExact AreMembers
one_members [] [] [] h g = refl
one_members [] [] (y ∷ ys) h g = absurd g
one_members [] (x ∷ xs) ys h g = absurd h
one_members (w ∷ ws) [] ys h g = absurd h
one_members (w ∷ ws) (x ∷ xs) [] h g = absurd g
one_members (w ∷ ws) (x ∷ xs) (y ∷ ys) h g =
    let e : x ≡ y = one_below 8 w x y h.0 g.0 in
    let f : xs ≡ ys = one_members ws xs ys h.1 g.1 in
    cc

one_one : {A : Type 0} (F : List ℕ → A → Type 0) → IsExact F → (ws : List (List ℕ)) (a b : A) → One F ws a → One F ws b → a ≡ b
one_one F exact ws a b x y =
    let e : x.first ∷ [] ≡ y.first ∷ [] = sym x.words_are ∙ y.words_are in
    let f : x.first ≡ y.first = cc in
    exact x.first a b x.first_is (subst (λ (w : List ℕ). F w b) (sym f) y.first_is)

one_two : {A B : Type 0} (F : List ℕ → A → Type 0) (G : List ℕ → B → Type 0) → IsExact F → IsExact G → (ws : List (List ℕ)) (a c : A) (b d : B)
    → Two F G ws a b → Two F G ws c d → (a ≡ c) × (b ≡ d)
one_two F G one other ws a c b d x y =
    let e : x.first ∷ x.second ∷ [] ≡ y.first ∷ y.second ∷ [] = sym x.words_are ∙ y.words_are in
    let f : x.first ≡ y.first = cc in
    let g : x.second ≡ y.second = cc in (
      one x.first a c x.first_is (subst (λ (w : List ℕ). F w c) (sym f) y.first_is),
      other x.second b d x.second_is (subst (λ (w : List ℕ). G w d) (sym g) y.second_is),
    )

one_three : {A B C : Type 0} (F : List ℕ → A → Type 0) (G : List ℕ → B → Type 0) (H : List ℕ → C → Type 0) → IsExact F → IsExact G → IsExact H
    → (ws : List (List ℕ)) (a d : A) (b e : B) (c f : C) → Three F G H ws a b c → Three F G H ws d e f → (a ≡ d) × (b ≡ e) × (c ≡ f)
one_three F G H one other third ws a d b e c f x y =
    let p : x.first ∷ x.second ∷ x.third ∷ [] ≡ y.first ∷ y.second ∷ y.third ∷ [] = sym x.words_are ∙ y.words_are in
    let q : x.first ≡ y.first = cc in
    let r : x.second ≡ y.second = cc in
    let s : x.third ≡ y.third = cc in (
      one x.first a d x.first_is (subst (λ (w : List ℕ). F w d) (sym q) y.first_is),
      other x.second b e x.second_is (subst (λ (w : List ℕ). G w e) (sym r) y.second_is),
      third x.third c f x.third_is (subst (λ (w : List ℕ). H w f) (sym s) y.third_is),
    )

one_behind : (v : Verb) (ws : List (List ℕ)) (s t : ScriptStep) → SaysBehind v ws s → SaysBehind v ws t → s ≡ t
one_behind verb.Propose ws s t (m, q, b, h, e) (n, r, c, g, f) =
    let k = one_three IsMember IsCount IsBit (one_below 8) (one_below 16) one_bit ws m n q r b c h g in cc
one_behind verb.Deliver ws s t (m, q, b, h, e) (n, r, c, g, f) =
    let k = one_three IsMember IsMember IsWhich (one_below 8) (one_below 8) one_which ws m n q r b c h g in cc
one_behind verb.Group ws s t (m, q, b, h, e) (n, r, c, g, f) =
    let k = one_three IsMember IsMember IsGroupSize (one_below 8) (one_below 8) one_group_size ws m n q r b c h g in cc
one_behind verb.Lie ws s t (m, q, b, h, e) (n, r, c, g, f) =
    let k = one_three IsMember IsMember IsHexOf (one_below 8) (one_below 8) one_bytes ws m n q r b c h g in cc
one_behind verb.Fuse ws s t (m, q, h, e) (n, r, g, f) = let k = one_two IsMember IsFuse (one_below 8) one_fuse ws m n q r h g in cc
one_behind verb.Crash ws s t (m, p, d, b, h, i, j, e) (n, q, c, a, g, k, l, f) =
    let w : d ∷ b ≡ c ∷ a = sym h ∙ g in
    let x : d ≡ c = cc in
    let y : b ≡ a = cc in
    let u : m ≡ n = one_below 8 d m n i (subst (λ (z : List ℕ). IsMember z n) (sym x) k) in
    let v : p ≡ q = one_pick b p q j (subst (λ (z : List (List ℕ)). ArePick z q) (sym y) l) in
    cc
one_behind verb.Restart ws s t (m, h, e) (n, g, f) = let k = one_one IsMember (one_below 8) ws m n h g in cc
one_behind verb.Reset ws s t (m, q, h, e) (n, r, g, f) = let k = one_two IsMember IsMember (one_below 8) (one_below 8) ws m n q r h g in cc
one_behind verb.Rounds ws s t (m, h, e) (n, g, f) = let k = one_one IsLong (one_below 64) ws m n h g in cc
one_behind verb.Random ws s t (m, h, e) (n, g, f) = let k = one_one IsLong (one_below 64) ws m n h g in cc
one_behind verb.Fair ws s t (m, h, e) (n, g, f) = let k = one_one IsLong (one_below 64) ws m n h g in cc

-- a number that tells the names apart
key : List ℕ → ℕ
key w = length w * 65536 + get_or w 0 0 * 256 + get_or w 1 0

verb_with : ℕ → Verb
verb_with k =
    cond (eqb k (7 * 65536 + 112 * 256 + 114)) verb.Propose
    (cond (eqb k (7 * 65536 + 100 * 256 + 101)) verb.Deliver
    (cond (eqb k (5 * 65536 + 103 * 256 + 114)) verb.Group
    (cond (eqb k (3 * 65536 + 108 * 256 + 105)) verb.Lie
    (cond (eqb k (4 * 65536 + 102 * 256 + 117)) verb.Fuse
    (cond (eqb k (5 * 65536 + 99 * 256 + 114)) verb.Crash
    (cond (eqb k (7 * 65536 + 114 * 256 + 101)) verb.Restart
    (cond (eqb k (5 * 65536 + 114 * 256 + 101)) verb.Reset
    (cond (eqb k (6 * 65536 + 114 * 256 + 111)) verb.Rounds
    (cond (eqb k (6 * 65536 + 114 * 256 + 97)) verb.Random
    verb.Fair)))))))))

-- the verb that a word names, if it names one
pub verb_of : List ℕ → Verb
verb_of w = verb_with (key w)

pub of_name : (v : Verb) → verb_of (verb_name v) ≡ v
unfolding verb_of verb_with key
of_name verb.Propose = refl
of_name verb.Deliver = refl
of_name verb.Group = refl
of_name verb.Lie = refl
of_name verb.Fuse = refl
of_name verb.Crash = refl
of_name verb.Restart = refl
of_name verb.Reset = refl
of_name verb.Rounds = refl
of_name verb.Random = refl
of_name verb.Fair = refl

-- no two verbs have one name
pub one_verb : (v w : Verb) → verb_name v ≡ verb_name w → v ≡ w
one_verb v w e = sym (of_name v) ∙ (ap verb_of e ∙ of_name w)

pub one_step : IsExact SaysStep
one_step ws s t h g =
    let e : verb_name h.its_verb ∷ h.behind ≡ verb_name g.its_verb ∷ g.behind = sym h.words_are ∙ g.words_are in
    let n : verb_name h.its_verb ≡ verb_name g.its_verb = cc in
    let b : h.behind ≡ g.behind = cc in
    let v = one_verb h.its_verb g.its_verb n in
    one_behind h.its_verb h.behind s t h.says
    (subst (λ (x : Verb). SaysBehind x h.behind t) (sym v) (subst (λ (x : List (List ℕ)). SaysBehind g.its_verb x t) (sym b) g.says))
