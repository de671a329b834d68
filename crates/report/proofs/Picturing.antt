-- What is drawn of an event, element by element and part by part.
use Rattle.std.proofs.Common.{ℕ, suc, Bool, true, false, ◌≡◌, ◌+◌, ◌<◌, ◌==◌, nat_lt, refl, sym, ap, ◌∙◌, subst, arith, append_assoc, append-nil, Result, OnOk, codes, List, [], ◌∷◌, ◌++◌, length, take, drop, get_or}
use Rattle.std.specs.declared.alloc.AllocError.{AllocError}
use Rattle.std.specs.List.{flat_map, count_by}
use Rattle.std.specs.Fmt.{decimal}
use Rattle.std.proofs.lemmas.Grind.{flat_map-append}
use Rattle.std.proofs.lemmas.Result.{IfOk-weaker}
use Rattle.std.proofs.Math.Seq.{take-suc}
use Rattle.std.proofs.lemmas.List.{drop_more}
use Rattle.numerals.specs.Sentences.{bit_digit}
use Rattle.terms_prelude.specs.Terms.{Record, Said, Decided, Size, Kind}
use Rattle.sim.specs.declared.events.Event.{Event}
use Rattle.sim.specs.declared.events.Event.TheVariants.{Propose, Deliver, DeliverAll, LieBytes, Fuse, Crash, Restart, Reset}
use Rattle.sim.specs.declared.events.Mark.{Mark}
use Rattle.report.specs.declared.chart.column.Column.{Column}
use Rattle.report.specs.declared.chart.drawing.Drawing.{Drawing}
use Rattle.report.specs.declared.chart.drawing.Words.{Words}
use Rattle.report.specs.declared.chart.drawing.Words.TheVariants as words
use Rattle.report.specs.declared.chart.drawing.Sign.TheVariants as sign
use Rattle.report.specs.Drawings.{Element, SignAt, BadgeAt, Arrow, Loop, words_at, Grows}
use Rattle.report.specs.Pictures.{also_part, listed, decision, decisions, on_question, arrow_words, arrow_elements, far_words, lie_words, lie_elements, proposal_elements, is_said_of, counted, said_parts, said_text, said_verb, said_elements, saved_elements, failure_elements, decided_text, heads_again, IsShown, IsRow}
use Rattle.report.specs.Places.{column_x, of_members}
use Rattle.report.proofs.Elements.{grows_more}
use Rattle.report.specs.Charts.{member_of, IsLieLabel}

-- one record more
pub record_more : (xs : List Record) (i : ℕ) (d r : Record) → i < length xs → get_or xs i d ≡ r → take (i + 1) xs ≡ take i xs ++ r ∷ []
record_more xs i d r within at =
    let n : suc i ≡ i + 1 = omega arith in
    subst (λ k. take k xs ≡ take i xs ++ r ∷ []) n (take-suc xs i d within ∙ ap (λ (y : Record). take i xs ++ y ∷ []) at)

pub decisions-append : (questions : ℕ) (xs ys : List Record) → decisions questions (xs ++ ys) ≡ decisions questions xs ++ decisions questions ys
decisions-append questions [] ys = refl
decisions-append questions (Said s ∷ xs) ys = decisions-append questions xs ys
decisions-append questions (Decided question round bit ∷ xs) ys =
    ap (λ (rest : List (List ℕ)). decision questions question bit ∷ rest) (decisions-append questions xs ys)

-- a statement is no decision
pub not_decided : (questions : ℕ) (r : Record) → ((question round : ℕ) (bit : Bool) → r ≡ Decided question round bit → ⊥) → decisions questions (r ∷ []) ≡ []
not_decided questions (Said s) h = refl
not_decided questions (Decided question round bit) h = absurd (h question round bit refl)

-- a part behind others
pub listed-more : (verb part : List ℕ) (first : List ℕ) (others : List (List ℕ))
    → listed verb ((first ∷ others) ++ part ∷ []) ≡ listed verb (first ∷ others) ++ (codes ", " ++ part)
listed-more verb part first others = more (flat_map also_part others) (flat_map also_part (others ++ part ∷ [])) last
  where
    last : flat_map also_part (others ++ part ∷ []) ≡ flat_map also_part others ++ (codes ", " ++ part)
    last = flat_map-append also_part others (part ∷ []) ∙ ap (λ (t : List ℕ). flat_map also_part others ++ t) (append-nil (also_part part))

    more : (before all : List ℕ) → all ≡ before ++ (codes ", " ++ part)
        → verb ++ (codes " " ++ (first ++ all)) ≡ (verb ++ (codes " " ++ (first ++ before))) ++ (codes ", " ++ part)
    more before all e =
        ap (λ (t : List ℕ). verb ++ (codes " " ++ (first ++ t))) e ∙ simp append_assoc

-- the decisions of one record more
pub decisions_more : (questions : ℕ) (xs : List Record) (i : ℕ) (d r : Record) → i < length xs → get_or xs i d ≡ r
    → decisions questions (take (i + 1) xs) ≡ decisions questions (take i xs) ++ decisions questions (r ∷ [])
decisions_more questions xs i d r within at =
    ap (decisions questions) (record_more xs i d r within at) ∙ decisions-append questions (take i xs) (r ∷ [])

-- a delivery to oneself
pub loop_is : (from to x y : ℕ) (carried : List ℕ) → (from == to) ≡ true → x ≡ column_x from
    → (Loop x y ∷ words_at words.Turn x y carried) ≡ arrow_elements from to carried y
loop_is from to x y carried same e = rw (same, e) refl

-- one to another
pub arrow_is : (from to start end y : ℕ) (carried : List ℕ) (what there : Words) → (from == to) ≡ false → start ≡ column_x from → end ≡ column_x to
    → what ≡ arrow_words (nat_lt from to) → there ≡ arrow_words (nat_lt to from)
    → (Arrow false start end y ∷ (words_at what start y carried ++ far_words there from to carried y)) ≡ arrow_elements from to carried y
arrow_is from to start end y carried what there other a b w f = rw (other, a, b, w, f) refl

-- a proposal
pub proposal_is : (questions member question : ℕ) (bit : Bool) (x y : ℕ) (text : List ℕ) → x ≡ column_x member
    → text ≡ codes "proposes " ++ (decimal (bit_digit bit) ++ on_question questions question)
    → (SignAt sign.Dot x y ∷ words_at words.Proposal x y text) ≡ proposal_elements questions member question bit y
proposal_is questions member question bit x y text a t = rw (a, t) refl

-- an event that is shown, by its elements
pub shown : (r : Result (Unit {0}) AllocError) (old new : Drawing) (size : Size) (columns : List Column) (event given : Event) (outcome : Mark) (y : ℕ)
    (elements : List Element) → event ≡ given → IsShown size columns given outcome y elements → OnOk r (Grows old new elements)
    → OnOk r ((drawn : List Element) × IsShown size columns event outcome y drawn × Grows old new drawn)
shown r old new size columns event given outcome y elements e is h =
    IfOk-weaker r (λ _. Grows old new elements) (λ _. (drawn : List Element) × IsShown size columns event outcome y drawn × Grows old new drawn)
    (λ _ grows. (elements, subst (λ (v : Event). IsShown size columns v outcome y elements) (sym e) is, grows)) h

-- the same where only a part of them is told
pub shown_some : {A : Type 0} (r : Result (Unit {0}) AllocError) (old new : Drawing) (size : Size) (columns : List Column) (event given : Event) (outcome : Mark)
    (y : ℕ) (P : A → Type 0) (elements : A → List Element) → event ≡ given → ((a : A) → P a → IsShown size columns given outcome y (elements a))
    → OnOk r ((a : A) × P a × Grows old new (elements a))
    → OnOk r ((drawn : List Element) × IsShown size columns event outcome y drawn × Grows old new drawn)
shown_some {A} r old new size columns event given outcome y P elements e is h =
    IfOk-weaker r (λ _. (a : A) × P a × Grows old new (elements a)) (λ _. (drawn : List Element) × IsShown size columns event outcome y drawn × Grows old new drawn)
    (λ _ told. (elements told.0, subst (λ (v : Event). IsShown size columns v outcome y (elements told.0)) (sym e) (is told.0 told.1), told.2)) h

-- a lie
pub lie_is : (liar to start end at y : ℕ) (label : List ℕ) (what there : Words) → start ≡ column_x liar → end ≡ column_x to → at ≡ column_x liar
    → what ≡ lie_words (nat_lt liar to) → there ≡ lie_words (nat_lt to liar)
    → (Arrow true start end y ∷ (words_at what at y label ++ far_words there liar to label y)) ≡ lie_elements liar to label y
lie_is liar to start end at y label what there a b d w f = rw (a, b, d, w, f) refl

pub lie_drawn : (r : Result (Unit {0}) AllocError) (old new : Drawing) (size : Size) (bytes label : List ℕ) (liar to y : ℕ) → IsLieLabel size bytes label
    → OnOk r (Grows old new (lie_elements liar to label y))
    → OnOk r ((told : List ℕ) × IsLieLabel size bytes told × Grows old new (lie_elements liar to told y))
lie_drawn r old new size bytes label liar to y is h =
    IfOk-weaker r (λ _. Grows old new (lie_elements liar to label y)) (λ _. (told : List ℕ) × IsLieLabel size bytes told × Grows old new (lie_elements liar to told y))
    (λ _ grows. (label, is, grows)) h

-- one kind more
pub kinds_more : (verb : List ℕ) (records : List Record) (all : List ℕ) (parts : List (List ℕ)) (kinds : List Kind) (i : ℕ) (d : Kind) (count : ℕ) → i < length kinds
    → count ≡ count_by (is_said_of (get_or kinds i d)) records
    → listed verb (parts ++ flat_map (said_parts records) (drop i kinds)) ≡ all
    → listed verb ((parts ++ counted (get_or kinds i d) count) ++ flat_map (said_parts records) (drop (i + 1) kinds)) ≡ all
kinds_more verb records all parts kinds i d count within is h =
    let step : flat_map (said_parts records) (drop i kinds) ≡ counted (get_or kinds i d) count ++ flat_map (said_parts records) (drop (i + 1) kinds) =
    ap (flat_map (said_parts records)) (drop_more kinds i d within)
    ∙ ap (λ n. counted (get_or kinds i d) n ++ flat_map (said_parts records) (drop (i + 1) kinds)) (sym is) in
    ap (listed verb) (append_assoc parts (counted (get_or kinds i d) count) (flat_map (said_parts records) (drop (i + 1) kinds))
    ∙ ap (λ (l : List (List ℕ)). parts ++ l) (sym step)) ∙ h

-- a verb is a word
pub verb_is_some : (event : Event) → 0 < length (said_verb event)
verb_is_some (Propose member question bit toss) = omega arith
verb_is_some (Deliver from to which toss) = omega arith
verb_is_some (DeliverAll from to count toss) = omega arith
verb_is_some (LieBytes liar to bytes toss) = omega arith
verb_is_some (Fuse member calls) = omega arith
verb_is_some (Crash member pick) = omega arith
verb_is_some (Restart member) = omega arith
verb_is_some (Reset from to) = omega arith

badge_is : (x y : ℕ) (decided said : List ℕ) → (length decided == 0) ≡ false → (BadgeAt x y decided said ∷ []) ≡ said_elements x y decided said
badge_is x y [] said h = cc
badge_is x y (c ∷ decided) said h = refl

-- what is drawn where something was decided
pub saved_is : (questions : ℕ) (event : Event) (records : List Record) (x y : ℕ) (decided said : List ℕ) → (length decided == 0) ≡ false
    → x ≡ column_x (member_of event) → decided ≡ decided_text questions records → said ≡ said_text (said_verb event) records
    → (BadgeAt x y decided said ∷ []) ≡ saved_elements questions event records y
saved_is questions event records x y decided said some at d s =
    badge_is x y decided said some ∙ ap (λ v. said_elements v y decided said) at
    ∙ ap (λ (text : List ℕ). said_elements (column_x (member_of event)) y text said) d
    ∙ ap (λ (text : List ℕ). said_elements (column_x (member_of event)) y (decided_text questions records) text) s

-- what was said behind another's verb
pub said_is : (verb : List ℕ) (event : Event) (records : List Record) (text : List ℕ) → verb ≡ said_verb event
    → (0 < length verb → text ≡ said_text verb records) → text ≡ said_text (said_verb event) records
said_is verb event records text e h =
    h (subst (λ (v : List ℕ). 0 < length v) (sym e) (verb_is_some event)) ∙ ap (λ (v : List ℕ). said_text v records) e

-- one member more
pub members_more : (n : ℕ) (elements : ℕ → List Element) → of_members n elements ++ elements n ≡ of_members (n + 1) elements
members_more n elements = let next : suc n ≡ n + 1 = omega arith in ap (λ (k : ℕ). of_members k elements) next

-- what is drawn of a member more
pub member_drawn : (old between new : Drawing) (n : ℕ) (elements : ℕ → List Element) → Grows old between (of_members n elements) → Grows between new (elements n)
    → Grows old new (of_members (n + 1) elements)
member_drawn old between new n elements a b =
    subst (λ (l : List Element). Grows old new l) (members_more n elements) (grows_more old between new (of_members n elements) (elements n) a b)

-- what holds at one place holds at an equal one, where these are equal
pub at_place : (r : Result (Unit {0}) AllocError) (P : ℕ → Type 0) (Few : Type 0) (y z : ℕ) → (Few → y ≡ z) → OnOk r (P y) → OnOk r (Few → P z)
at_place r P Few y z same held = IfOk-weaker r (λ _. P y) (λ _. Few → P z) (λ _ it few. subst P (same few) it) held

-- the row of an event, drawn from its parts
pub row_drawn : (r : Result (Unit {0}) AllocError) (a b d e f g : Drawing) (size : Size) (columns : List Column) (row y number : ℕ) (event : Event) (outcome : Mark) (saved : List Record)
    (shown : List Element) → Grows a b (heads_again size.n columns row y) → Grows b d (words_at words.Number 40 y (decimal number))
    → IsShown size columns event outcome y shown → Grows d e shown → Grows e f (failure_elements (member_of event) outcome y)
    → OnOk r (Grows f g (saved_elements size.questions event saved y))
    → OnOk r ((elements : List Element) × IsRow size columns row y number event outcome saved elements × Grows a g elements)
row_drawn r a b d e f g size columns row y number event outcome saved shown one two is three four five =
    let failed = failure_elements (member_of event) outcome y in
    let last = saved_elements size.questions event saved y in
    let digits = words_at words.Number 40 y (decimal number) in
    IfOk-weaker r (λ _. Grows f g last) (λ _. (elements : List Element) × IsRow size columns row y number event outcome saved elements × Grows a g elements)
    (λ _ it. (
      heads_again size.n columns row y ++ (digits ++ (shown ++ (failed ++ last))),
      record { shown = shown; happens = is; order = refl },
      grows_more a b g (heads_again size.n columns row y) (digits ++ (shown ++ (failed ++ last))) one
          (grows_more b d g digits (shown ++ (failed ++ last)) two (grows_more d e g shown (failed ++ last) three (grows_more e f g failed last four it))),
    )) five
