-- Each text says something or has a first fault.
use Rattle.std.proofs.Common.{ℕ, zero, suc, ◌≡◌, ◌^◌, ◌<◌, ◌≤◌, refl, sym, ap, ◌∙◌, subst, arith, inl, inr, ◌⊎◌, Bool, true, false, Option}
use Rattle.std.proofs.Common.{Some, None, Result, Ok, Err, List, [], ◌∷◌, length, drop, codes, slice_get}
use Rattle.std.specs.Str.Parse.{AllDigits, digits_value}
use Rattle.std.specs.Char.{digit_value}
use Rattle.hex.specs.Hex.{decode_of}
use Rattle.hex.specs.declared.error.FromHexError.{FromHexError}
use Rattle.terms_prelude.specs.Terms.{Size, new_size, size_fault, SizeFault}
use Rattle.disk.specs.declared.Pick.TheVariants.{Kept, Lost, Fill}
use Rattle.sim.specs.declared.events.Which.TheVariants.{Next, At}
use Rattle.script.specs.Words.{ScriptFault, Verb, words_of, IsMember, IsLong, IsGroupSize, IsBit, IsWhich, IsFuse, ArePick, AreMembers}
use Rattle.script.specs.Words.{Page, page_from, HasLine, line_number, TossedAct, Propose, Deliver, DeliverAll, Lie, Fuse, Crash, Restart}
use Rattle.script.specs.Words.{Reset, ScriptStep, verb_name, One, Two, Three, SaysBehind, SaysStep, Once, Rounds, Random, Fair, fresh, Made}
use Rattle.script.specs.Words.{after_step, correct_below, LeadTo, BreakBy, AreListedLiars, MakeSize, IsHead, SaysCluster, at_start, FailsOr}
use Rattle.script.specs.Words.{SizeFailsOr, IsFirstFault}
use Rattle.script.specs.declared.fault.ScriptFault.TheVariants as faults
use Rattle.script.specs.declared.step.Verb.TheVariants as verb
use Rattle.sim.specs.declared.TheConstants.{MOST_EVENTS}
use Rattle.numerals.specs.Numbers.{IsNumber, IsBelow, IsHexOf}
use Rattle.script.proofs.Deciding.{TrueOrNot, FoundOrNot, Decides, carry, both, also, and, same_text, same_words, less_or, less}
use Rattle.script.proofs.Deciding.FoundOrNot.{Found, NotFound}
use Rattle.script.proofs.Exact.{one_number, one_bytes, one_verb, verb_of, of_name}

-- characters are all decimal digits, or not
digits : (ds : List ℕ) → TrueOrNot (AllDigits 10 ds)
digits [] = inl tt
digits (c ∷ cs) = and (less (digit_value c) 10) (digits cs)

-- a word writes a number, or none
number : Decides IsNumber
number [] = NotFound (λ n h. let l = h.digits_are.0 in absurd (omega arith))
number (c ∷ cs) = step (digits (c ∷ cs))
  where
    step : TrueOrNot (AllDigits 10 (c ∷ cs)) → FoundOrNot (IsNumber (c ∷ cs))
    step (inl h) = Found (digits_value 10 (c ∷ cs)) (record { digits_are = (omega arith, h); value = refl })
    step (inr isnt) = NotFound (λ n h. isnt h.digits_are.1)

-- a word writes a number below a power of two, or none
below : (bits : ℕ) → Decides (IsBelow bits)
below bits w =
    carry (also (one_number w) (number w) (λ n. less n (2 ^ bits)))
    (λ n h. (n, record { number_is = h.0; below = h.1 })) (λ n h. (n, (h.number_is, h.below)))

-- a word says how many statements a group has, or it doesn't
group_size : Decides IsGroupSize
group_size w =
    carry (also (one_number w) (number w) (λ n. and (less 0 n) (less n 257)))
    (λ n h. (n, record { number_is = h.0; some = omega arith; few = omega arith }))
    (λ n h. (n, (h.number_is, (omega arith, omega arith))))

-- a word writes a bit, or none
bit : Decides IsBit
bit w = step (number w)
  where
    many : (k : ℕ) → IsNumber w (suc (suc k)) → (b : Bool) → IsBit w b → ⊥
    many k h false g = let e = one_number w 0 (suc (suc k)) g h in absurd (omega arith)
    many k h true g = let e = one_number w 1 (suc (suc k)) g h in absurd (omega arith)

    step : FoundOrNot (IsNumber w) → FoundOrNot (IsBit w)
    step (Found zero h) = Found false h
    step (Found (suc zero) h) = Found true h
    step (Found (suc (suc k)) h) = NotFound (many k h)
    step (NotFound isnt) = NotFound (λ b h. isnt _ h)

-- a word says which statement, or none
which : Decides IsWhich
which w = step (same_text w (codes "next")) (below 64 w)
  where
    step : TrueOrNot (w ≡ codes "next") → FoundOrNot (IsLong w) → FoundOrNot (IsWhich w)
    step (inl e) r = Found Next e
    step (inr a) (Found k h) = Found (At k) h
    step (inr a) (NotFound b) = NotFound (elim [ Next ↦ a | At k ↦ b k ])

-- a word says how many calls, or it doesn't
fuse : Decides IsFuse
fuse w = step (same_text w (codes "off")) (below 64 w)
  where
    step : TrueOrNot (w ≡ codes "off") → FoundOrNot (IsLong w) → FoundOrNot (IsFuse w)
    step (inl e) r = Found None e
    step (inr a) (Found k h) = Found (Some k) h
    step (inr a) (NotFound b) = NotFound (elim [ None ↦ a | Some k ↦ b k ])

-- a word writes bytes in hexadecimal digits, or none
bytes : Decides IsHexOf
bytes w = step (decode_of w) refl
  where
    step : (r : Result (List ℕ) FromHexError) → decode_of w ≡ r → FoundOrNot (IsHexOf w)
    step (Ok []) e = NotFound (λ x h.
        let f : ◌≡◌ {A = Result (List ℕ) FromHexError} (Ok []) (Ok x) = sym e ∙ h.decoded in
        let g : [] ≡ x = cc in
        let l : 0 < length {A = ℕ} [] = subst (λ (y : List ℕ). 0 < length y) (sym g) h.some in
        absurd (omega arith))
    step (Ok (b ∷ bs)) e = Found (b ∷ bs) (record { decoded = e; some = omega arith })
    step (Err x) e = NotFound (λ y h. let f : ◌≡◌ {A = Result (List ℕ) FromHexError} (Err x) (Ok y) = sym e ∙ h.decoded in cc)

-- a word writes one byte so
abbrev IsByte : List ℕ → ℕ → Type 0
IsByte digits byte = IsHexOf digits (byte ∷ [])

-- or it doesn't
byte : Decides IsByte
byte w = step (bytes w)
  where
    step : FoundOrNot (IsHexOf w) → FoundOrNot (IsByte w)
    step (Found [] h) = let l = h.some in absurd (omega arith)
    step (Found (x ∷ []) h) = Found x h
    step (Found (x ∷ y ∷ xs) h) = NotFound (λ b g. let e : x ∷ y ∷ xs ≡ b ∷ [] = one_bytes w (x ∷ y ∷ xs) (b ∷ []) h g in cc)
    step (NotFound isnt) = NotFound (λ b g. isnt (b ∷ []) g)

-- words write members, one a word, or they don't
members : Decides AreMembers
members [] = Found [] tt
members (w ∷ ws) = carry (both (below 8 w) (members ws)) (λ x h. (x.0 ∷ x.1, h)) back
  where
    back : (ms : List ℕ) → AreMembers (w ∷ ws) ms → (x : ℕ × List ℕ) × (IsMember w x.0 × AreMembers ws x.1)
    back [] h = absurd h
    back (m ∷ ms) h = ((m, ms), h)

-- One word says a step, or none. Here and below a step is made of what the words say, each of its own form.
one : {A : Type 0} {F : List ℕ → A → Type 0} (step : A → ScriptStep) → Decides F
    → Decides (λ (words : List (List ℕ)) (s : ScriptStep). (a : A) × One F words a × (s ≡ step a))
one step f [] = NotFound (λ s (a, h, e). let i = h.words_are in cc)
one step f (w ∷ v ∷ ws) = NotFound (λ s (a, h, e). let i = h.words_are in cc)
one {A} {F} step f (w ∷ []) =
    carry (f w) (λ a h. (step a, (a, record { first = w; words_are = refl; first_is = h }, refl)))
    (λ s (a, h, e). let i = h.words_are in let j : h.first ≡ w = cc in (a, subst (λ (z : List ℕ). F z a) j h.first_is))

-- two words do
two : {A B : Type 0} {F : List ℕ → A → Type 0} {G : List ℕ → B → Type 0} (step : A → B → ScriptStep) → Decides F → Decides G
    → Decides (λ (words : List (List ℕ)) (s : ScriptStep). (a : A) × (b : B) × Two F G words a b × (s ≡ step a b))
two step f g [] = NotFound (λ s (a, b, h, e). let i = h.words_are in cc)
two step f g (w ∷ []) = NotFound (λ s (a, b, h, e). let i = h.words_are in cc)
two step f g (w ∷ v ∷ u ∷ ws) = NotFound (λ s (a, b, h, e). let i = h.words_are in cc)
two {A} {B} {F} {G} step f g (w ∷ v ∷ []) =
    carry (both (f w) (g v))
    (λ (a, b) (h, k). (step a b, (a, b, record { first = w; second = v; words_are = refl; first_is = h; second_is = k }, refl)))
    (λ s (a, b, h, e).
    let i = h.words_are in
    let j : h.first ≡ w = cc in
    let k : h.second ≡ v = cc in
    ((a, b), (subst (λ (z : List ℕ). F z a) j h.first_is, subst (λ (z : List ℕ). G z b) k h.second_is)))

-- three words do
three : {A B C : Type 0} {F : List ℕ → A → Type 0} {G : List ℕ → B → Type 0} {H : List ℕ → C → Type 0} (step : A → B → C → ScriptStep)
    → Decides F → Decides G → Decides H
    → Decides (λ (words : List (List ℕ)) (s : ScriptStep). (a : A) × (b : B) × (c : C) × Three F G H words a b c × (s ≡ step a b c))
three step f g i [] = NotFound (λ s (a, b, c, h, e). let j = h.words_are in cc)
three step f g i (w ∷ []) = NotFound (λ s (a, b, c, h, e). let j = h.words_are in cc)
three step f g i (w ∷ v ∷ []) = NotFound (λ s (a, b, c, h, e). let j = h.words_are in cc)
three step f g i (w ∷ v ∷ u ∷ t ∷ ws) = NotFound (λ s (a, b, c, h, e). let j = h.words_are in cc)
three {A} {B} {C} {F} {G} {H} step f g i (w ∷ v ∷ u ∷ []) =
    carry (both (f w) (both (g v) (i u)))
    (λ (a, (b, c)) (h, (k, l)). (
      step a b c,
      (a, b, c, record { first = w; second = v; third = u; words_are = refl; first_is = h; second_is = k; third_is = l }, refl),
    ))
    (λ s (a, b, c, h, e).
    let j = h.words_are in
    let k : h.first ≡ w = cc in
    let l : h.second ≡ v = cc in
    let m : h.third ≡ u = cc in (
      (a, (b, c)),
      (
        subst (λ (z : List ℕ). F z a) k h.first_is,
        (subst (λ (z : List ℕ). G z b) l h.second_is, subst (λ (z : List ℕ). H z c) m h.third_is),
      ),
    ))

-- words are this name and one word of that form, or they aren't
labelled : {A : Type 0} {F : List ℕ → A → Type 0} (name : List ℕ) → Decides F
    → Decides (λ (words : List (List ℕ)) (x : A). (word : List ℕ) × (words ≡ name ∷ word ∷ []) × F word x)
labelled name f [] = NotFound (λ x h. let e = h.1 in cc)
labelled name f (v ∷ []) = NotFound (λ x h. let e = h.1 in cc)
labelled name f (v ∷ w ∷ u ∷ ws) = NotFound (λ x h. let e = h.1 in cc)
labelled {A} {F} name f (v ∷ w ∷ []) = step (same_text v name) (f w)
  where
    step : TrueOrNot (v ≡ name) → FoundOrNot (F w) → FoundOrNot (λ (x : A). (word : List ℕ) × (v ∷ w ∷ [] ≡ name ∷ word ∷ []) × F word x)
    step (inl e) (Found x h) = Found x (w, ap (λ (z : List ℕ). z ∷ w ∷ []) e, h)
    step (inl e) (NotFound isnt) = NotFound (λ x (z, g, h). let i : z ≡ w = cc in isnt x (subst (λ (y : List ℕ). F y x) i h))
    step (inr isnt) r = NotFound (λ x (z, g, h). let i : v ≡ name = cc in isnt i)

-- words say what a crash leaves, or they don't
pick : Decides ArePick
pick ws = step (same_words ws (codes "kept" ∷ [])) (same_words ws (codes "lost" ∷ [])) (labelled (codes "fill") byte ws)
  where
    step : TrueOrNot (ws ≡ codes "kept" ∷ []) → TrueOrNot (ws ≡ codes "lost" ∷ [])
        → FoundOrNot (λ (b : ℕ). (word : List ℕ) × (ws ≡ codes "fill" ∷ word ∷ []) × IsHexOf word (b ∷ [])) → FoundOrNot (ArePick ws)
    step (inl e) q r = Found Kept e
    step (inr a) (inl e) r = Found Lost e
    step (inr a) (inr b) (Found x h) = Found (Fill x) h
    step (inr a) (inr b) (NotFound c) = NotFound (elim [ Kept ↦ a | Lost ↦ b | Fill x ↦ c x ])

-- the words behind `crash` say a step, or none
crash : Decides (SaysBehind verb.Crash)
crash [] = NotFound (λ s h. let e = h.4 in cc)
crash (w ∷ ws) =
    carry (both (below 8 w) (pick ws)) (λ x h. (Once (Crash x.0 x.1), (x.0, x.1, w, ws, refl, h.0, h.1, refl)))
    (λ s (m, p, d, b, e, i, j, f).
    let k : d ≡ w = cc in
    let l : b ≡ ws = cc in
    ((m, p), (subst (λ (x : List ℕ). IsMember x m) k i, subst (λ (x : List (List ℕ)). ArePick x p) l j)))

-- the words behind any verb do
behind : (v : Verb) → Decides (SaysBehind v)
behind verb.Propose = three (λ a b c. Once (Propose a b c)) (below 8) (below 16) bit
behind verb.Deliver = three (λ a b c. Once (Deliver a b c)) (below 8) (below 8) which
behind verb.Group = three (λ a b c. Once (DeliverAll a b c)) (below 8) (below 8) group_size
behind verb.Lie = three (λ a b c. Once (Lie a b c)) (below 8) (below 8) bytes
behind verb.Fuse = two (λ a b. Once (Fuse a b)) (below 8) fuse
behind verb.Crash = crash
behind verb.Restart = one (λ a. Once (Restart a)) (below 8)
behind verb.Reset = two (λ a b. Once (Reset a b)) (below 8) (below 8)
behind verb.Rounds = one (λ k. Rounds k) (below 64)
behind verb.Random = one (λ k. Random k) (below 64)
behind verb.Fair = one (λ k. Fair k fresh) (below 64)

-- a word is the name of a verb, or of none: only the one that its length and first bytes point at can be meant
verb_named : Decides (λ (word : List ℕ) (v : Verb). word ≡ verb_name v)
verb_named w = step (same_text w (verb_name (verb_of w)))
  where
    step : TrueOrNot (w ≡ verb_name (verb_of w)) → FoundOrNot (λ (v : Verb). w ≡ verb_name v)
    step (inl e) = Found (verb_of w) e
    step (inr isnt) = NotFound (λ v e. isnt (e ∙ ap verb_name (sym (ap verb_of e ∙ of_name v))))

-- the words of a line say a step, or none
says : Decides SaysStep
says [] = NotFound (λ s h. let e = h.words_are in cc)
says (w ∷ ws) = step (verb_named w)
  where
    step : FoundOrNot (λ (v : Verb). w ≡ verb_name v) → FoundOrNot (SaysStep (w ∷ ws))
    step (Found v e) =
        carry (behind v ws) (λ s h. (s, record { its_verb = v; behind = ws; words_are = ap (λ (x : List ℕ). x ∷ ws) e; says = h }))
        (λ s h.
        let f : w ∷ ws ≡ verb_name h.its_verb ∷ h.behind = h.words_are in
        let g : w ≡ verb_name h.its_verb = cc in
        let i : h.behind ≡ ws = cc in
        let j : h.its_verb ≡ v = one_verb h.its_verb v (sym g ∙ e) in
        (s, subst (λ (x : Verb). SaysBehind x ws s) j (subst (λ (x : List (List ℕ)). SaysBehind h.its_verb x s) i h.says)))
    step (NotFound isnt) = NotFound (λ s h. let f = h.words_are in let g : w ≡ verb_name h.its_verb = cc in isnt h.its_verb g)

-- something good, or a fault of some kind
abbrev GoodOr : Type 0 → (ScriptFault → Type 0) → Type 0
GoodOr Good Bad = Good ⊎ ((fault : ScriptFault) × Bad fault)

-- what is good stays so, and a fault of one kind is one of another
pass : {Good : Type 0} {Bad Worse : ScriptFault → Type 0} → GoodOr Good Bad → ((fault : ScriptFault) → Bad fault → Worse fault)
    → GoodOr Good Worse
pass (inl good) to = inl good
pass (inr (fault, bad)) to = inr (fault, to fault bad)

-- lines lead on to something, or break
abbrev LeadsOrBreaks : Size → List ℕ → Made → List (ℕ × List ℕ) → Type 0
LeadsOrBreaks size correct before lines =
    GoodOr ((after : Made) × LeadTo size correct before lines after) (BreakBy size correct before lines)

-- each list of lines does one of the two
leads_or_breaks : (size : Size) (correct : List ℕ) (before : Made) (lines : List (ℕ × List ℕ)) → LeadsOrBreaks size correct before lines
leads_or_breaks size correct before [] = inl (before, refl)
leads_or_breaks size correct before (line ∷ lines) = step (says (words_of line.1)) (λ next. leads_or_breaks size correct next lines)
  where
    fits : (s : ScriptStep) → SaysStep (words_of line.1) s
        → (MOST_EVENTS < length (after_step size correct s before).events)
        ⊎ (length (after_step size correct s before).events ≤ MOST_EVENTS)
        → LeadsOrBreaks size correct (after_step size correct s before) lines → LeadsOrBreaks size correct before (line ∷ lines)
    fits s h (inl over) r = inr (faults.Events, inl (inr (s, h, (over, refl))))
    fits s h (inr few) (inl (after, l)) = inl (after, (after_step size correct s before, (s, h, record { there = refl; few = few }), l))
    fits s h (inr few) (inr (fault, b)) = inr (fault, inr (after_step size correct s before, (s, h, record { there = refl; few = few }), b))

    step : FoundOrNot (SaysStep (words_of line.1)) → ((next : Made) → LeadsOrBreaks size correct next lines)
        → LeadsOrBreaks size correct before (line ∷ lines)
    step (Found s h) go =
        fits s h (less_or MOST_EVENTS (length (after_step size correct s before).events)) (go (after_step size correct s before))
    step (NotFound isnt) go = inr (faults.Line line.0, inl (inl (isnt, refl)))

-- there is a line of a form at a place, or none
has_line : {A : Type 0} {Form : List (List ℕ) → A → Type 0} (page : Page) (place : ℕ) → Decides Form → FoundOrNot (HasLine page place Form)
has_line {A} {Form} page place decide = step (slice_get page.said place) refl
  where
    step : (o : Option (ℕ × List ℕ)) → slice_get page.said place ≡ o → FoundOrNot (HasLine page place Form)
    step (Some line) e =
        carry (decide (words_of line.1)) (λ x h. (x, record { line = line; there = e; form = h }))
        (λ x h.
        let f : ◌≡◌ {A = Option (ℕ × List ℕ)} (Some h.line) (Some line) = sym h.there ∙ e in
        let g : h.line ≡ line = cc in
        (x, subst (λ (l : ℕ × List ℕ). Form (words_of l.1) x) g h.form))
    step None e = NotFound (λ x h. let f : ◌≡◌ {A = Option (ℕ × List ℕ)} None (Some h.line) = sym e ∙ h.there in cc)

-- There is one, and what is behind it is good or has the first fault, or that line is the first fault.
at_line : {A Good : Type 0} {Form : List (List ℕ) → A → Type 0} {Later : A → ScriptFault → Type 0} (page : Page) (place : ℕ) → Decides Form
    → ((x : A) → HasLine page place Form x → GoodOr Good (Later x)) → GoodOr Good (FailsOr page place Form Later)
at_line {A} {Good} {Form} {Later} page place decide more = step (has_line page place decide)
  where
    step : FoundOrNot (HasLine page place Form) → GoodOr Good (FailsOr page place Form Later)
    step (Found x h) = pass (more x h) (λ fault later. inr (x, h, later))
    step (NotFound isnt) = inr (faults.Line (line_number page place), inl (record { none = isnt; fault_is = refl }))

-- The numbers make a size, and what is behind it is good or has the first fault, or they are the first fault.
at_size : {Good : Type 0} {Later : Size → ScriptFault → Type 0} (n t questions : ℕ)
    → ((size : Size) → MakeSize n t questions size → GoodOr Good (Later size)) → GoodOr Good (SizeFailsOr n t questions Later)
at_size {Good} {Later} n t questions more = step (size_fault n t questions) refl
  where
    step : (o : Option SizeFault) → size_fault n t questions ≡ o → GoodOr Good (SizeFailsOr n t questions Later)
    step None e =
        let made : MakeSize n t questions (new_size n t questions) = record { size_is = refl; sound = e } in
        pass (more (new_size n t questions) made) (λ fault later. inr (new_size n t questions, made, later))
    step (Some wrong) e = inr (faults.Size wrong, inl (wrong, e, refl))

-- words are `liars` and members, or they aren't
liars : Decides AreListedLiars
liars [] = NotFound (λ x h. let e = h.1 in cc)
liars (w ∷ ws) = step (same_text w (codes "liars")) (members ws)
  where
    step : TrueOrNot (w ≡ codes "liars") → FoundOrNot (AreMembers ws) → FoundOrNot (AreListedLiars (w ∷ ws))
    step (inl e) (Found ms h) = Found ms (ws, ap (λ (x : List ℕ). x ∷ ws) e, h)
    step (inl e) (NotFound isnt) = NotFound (λ n (x, f, g).
        let i : x ≡ ws = cc in
        isnt n (subst (λ (y : List (List ℕ)). AreMembers y n) i g))
    step (inr isnt) r = NotFound (λ n (x, f, g). let i : w ≡ codes "liars" = cc in isnt i)

-- the text says a cluster and events
abbrev Told : List ℕ → Type 0
Told text = (size : Size) × (ls : List ℕ) × (events : List TossedAct) × SaysCluster text size ls events

-- behind a good head the lines lead on, and so the text says something, or they break
told : (text : List ℕ) (size : Size) (ls : List ℕ) (seed : ℕ) → IsHead (page_from text) size ls seed
    → GoodOr (Told text) (BreakBy size (correct_below size.n ls) (at_start seed) (drop 5 (page_from text).said))
told text size ls seed head = step (leads_or_breaks size (correct_below size.n ls) (at_start seed) (drop 5 (page_from text).said))
  where
    step : LeadsOrBreaks size (correct_below size.n ls) (at_start seed) (drop 5 (page_from text).said)
        → GoodOr (Told text) (BreakBy size (correct_below size.n ls) (at_start seed) (drop 5 (page_from text).said))
    step (inl (after, h)) = inl (size, ls, after.events, record { seed = seed; last = after; head = head; steps = h; events_are = refl })
    step (inr broken) = inr broken

-- each text says something, or has a first fault
pub told_or_fault : (text : List ℕ)
    → ((size : Size) × (ls : List ℕ) × (events : List TossedAct) × SaysCluster text size ls events)
    ⊎ ((fault : ScriptFault) × IsFirstFault text fault)
told_or_fault text =
    at_line (page_from text) 0 (labelled (codes "n") (below 16)) (λ n n_is.
    at_line (page_from text) 1 (labelled (codes "t") (below 16)) (λ t t_is.
    at_line (page_from text) 2 (labelled (codes "questions") (below 16)) (λ questions questions_is.
    at_size n t questions (λ size size_is.
    at_line (page_from text) 3 liars (λ ls liars_are.
    at_line (page_from text) 4 (labelled (codes "seed") (below 64)) (λ seed seed_is.
    told text size ls seed (record {
      n = n;
      t = t;
      questions = questions;
      n_is = n_is;
      t_is = t_is;
      questions_is = questions_is;
      size_is = size_is;
      liars_are = liars_are;
      seed_is = seed_is;
    })))))))
