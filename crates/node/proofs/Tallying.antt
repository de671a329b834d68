-- One record more in a tally, and what a book keeps of it.
use Rattle.std.proofs.Common.{ℕ, zero, suc, ◌≡◌, ◌≢◌, ◌⊎◌, ◌+◌, ◌-◌, ◌<◌, ◌≤◌, ◌^◌, ◌&&◌, nat_lt, refl, sym, ap, subst, arith, ◌∙◌, inl, inr, eqb, eq-eqb, Bool, true, false, cond, not, min, Option, Some, None, List, [], ◌∷◌, ◌++◌, length, take, slice_set, if◌then◌else◌, get_or-set_same, get_or-set_other}
use Rattle.std.proofs.lemmas.Bool.Decides.{nat_tests}
use Rattle.std.proofs.lemmas.List.{get_or_past, length-set, take-append-le, take_all}
use Rattle.terms_prelude.specs.Terms.{Record, Said, Decided, Statement, Header, count_below, decided, is_none}
use Rattle.terms.proofs.Count.{count-ext, count_bound}
use Rattle.disk.specs.declared.device.Disk.{Ghosts as DiskGhosts}
use Rattle.questions.specs.Replay.{Entry}
use Rattle.member.specs.declared.member.Member.{Member}
use Rattle.member.specs.Words.{bit_of, verdict_of, member_header, member_saved}
use Rattle.member.proofs.Asked.{asked_decided}
use Rattle.node.specs.Books.{decided_below}
use Rattle.node.specs.Words.{IsKept, AreCounted, IsTallied, TallyView, known_at, tallied}
use Rattle.node.proofs.Replaying.{verdict-more}

-- a statement decides nothing
verdict-said : (xs : List Record) (s : Statement) (q : ℕ) → verdict_of (xs ++ Said s ∷ []) q ≡ verdict_of xs q
verdict-said [] s q = refl
verdict-said (Said t ∷ xs) s q = verdict-said xs s q
verdict-said (Decided k r c ∷ xs) s q = step (eqb k q) (verdict-said xs s q)
  where
    step : (t : Bool) → verdict_of (xs ++ Said s ∷ []) q ≡ verdict_of xs q
        → bit_of (cond t (Some (r, c)) (decided (xs ++ Said s ∷ []) q)) ≡ bit_of (cond t (Some (r, c)) (decided xs q))
    step true h = refl
    step false h = h

-- a decision decides no other question
verdict-other : (xs : List Record) (k r : ℕ) (c : Bool) (q : ℕ) → eqb k q ≡ false → verdict_of (xs ++ Decided k r c ∷ []) q ≡ verdict_of xs q
verdict-other [] k r c q other = ap (λ (t : Bool). bit_of (cond t (Some (r, c)) None)) other
verdict-other (Said t ∷ xs) k r c q other = verdict-other xs k r c q other
verdict-other (Decided j u d ∷ xs) k r c q other = step (eqb j q) (verdict-other xs k r c q other)
  where
    step : (t : Bool) → verdict_of (xs ++ Decided k r c ∷ []) q ≡ verdict_of xs q
        → bit_of (cond t (Some (u, d)) (decided (xs ++ Decided k r c ∷ []) q)) ≡ bit_of (cond t (Some (u, d)) (decided xs q))
    step true h = refl
    step false h = h

-- and its own for its bit, where it wasn't decided
verdict-own : (xs : List Record) (k r : ℕ) (c : Bool) → verdict_of xs k ≡ None → verdict_of (xs ++ Decided k r c ∷ []) k ≡ Some c
verdict-own [] k r c free = ap (λ (t : Bool). bit_of (cond t (Some (r, c)) None)) (eq-eqb k k refl)
verdict-own (Said t ∷ xs) k r c free = verdict-own xs k r c free
verdict-own (Decided j u d ∷ xs) k r c free = step (eqb j k) free (verdict-own xs k r c)
  where
    step : (t : Bool) → bit_of (cond t (Some (u, d)) (decided xs k)) ≡ None
        → (verdict_of xs k ≡ None → verdict_of (xs ++ Decided k r c ∷ []) k ≡ Some c)
        → bit_of (cond t (Some (u, d)) (decided (xs ++ Decided k r c ∷ []) k)) ≡ Some c
    step true h more = cc
    step false h more = more h

same_or_not : (q k : ℕ) → (q ≡ k) ⊎ (q ≢ k)
same_or_not q k = grind arith

below_or_not : (q n : ℕ) → (q < n) ⊎ (n ≤ q)
below_or_not q n = grind arith

abbrev one_if : Bool → ℕ
one_if b = cond b 1 0

-- two tests that differ at one number below
count_one_more : (n k : ℕ) (p p' : ℕ → Bool) → k < n → p k ≡ false → p' k ≡ true → ((q : ℕ) → q ≢ k → p q ≡ p' q) → count_below n p' ≡ count_below n p + 1
count_one_more zero k p p' l f t same = absurd (omega (arith, l))
count_one_more (suc n) k p p' l f t same = step (same_or_not n k) (λ less. count_one_more n k p p' less f t same)
  where
    step : (n ≡ k) ⊎ (n ≢ k) → (k < n → count_below n p' ≡ count_below n p + 1) → count_below (suc n) p' ≡ count_below (suc n) p + 1
    step (inl is) more =
        let a : one_if (p' n) ≡ 1 = ap one_if (ap p' is ∙ t) in
        let b : one_if (p n) ≡ 0 = ap one_if (ap p is ∙ f) in
        let rest : count_below n p ≡ count_below n p' = count-ext n p p' (λ q less. same q (λ e. omega (arith, e, is, less))) in
        omega (arith, a, b, rest)
    step (inr other) more =
        let a : one_if (p n) ≡ one_if (p' n) = ap one_if (same n other) in
        let rest = more (omega (arith, l, other)) in
        omega (arith, a, rest)

abbrev is_made : Option Bool → Bool
is_made v = not (is_none v)

-- where the records say the same of each question
stays : (n : ℕ) (xs ys : List Record) (t : TallyView) → ((q : ℕ) → q < n → verdict_of ys q ≡ verdict_of xs q) → AreCounted n xs t → AreCounted n ys t
stays n xs ys t same h = record {
  few = h.few;
  count = h.count;
  each = λ q l. h.each q l ∙ sym (same q l);
  decided = h.decided ∙ count-ext n (λ q. is_made (verdict_of xs q)) (λ q. is_made (verdict_of ys q)) (λ q l. ap is_made (sym (same q l)));
}

-- a decision of a question that wasn't decided
grows : (n : ℕ) (xs : List Record) (t : TallyView) (k r : ℕ) (c : Bool) → k < n → known_at t.verdicts k ≡ None → AreCounted n xs t
    → AreCounted n (xs ++ Decided k r c ∷ []) (record { verdicts = slice_set t.verdicts k (Some c); decided = min (t.decided + 1) (2 ^ 16 - 1); order = t.order })
grows n xs t k r c less free h =
    let was : verdict_of xs k ≡ None = sym (h.each k less) ∙ free in
    let within : k < length t.verdicts = subst (λ (m : ℕ). k < m) (sym h.count) less in
    let own : verdict_of (xs ++ Decided k r c ∷ []) k ≡ Some c = verdict-own xs k r c was in
    let others : (q : ℕ) → q ≢ k → verdict_of (xs ++ Decided k r c ∷ []) q ≡ verdict_of xs q = λ q other. verdict-other xs k r c q (grind (arith, nat_tests, other)) in
    let more : decided_below n (xs ++ Decided k r c ∷ []) ≡ decided_below n xs + 1 =
    count_one_more n k (λ q. is_made (verdict_of xs q)) (λ q. is_made (verdict_of (xs ++ Decided k r c ∷ []) q)) less (ap is_made was) (ap is_made own) (λ q other. ap is_made (sym (others q other))) in
    let bound : decided_below n (xs ++ Decided k r c ∷ []) ≤ n = count_bound n (λ q. is_made (verdict_of (xs ++ Decided k r c ∷ []) q)) in
    record {
      few = h.few;
      count = length-set t.verdicts k (Some c) ∙ h.count;
      each = λ q l. step q l (same_or_not q k) own others;
      decided = omega (arith, more, bound, h.few, h.decided);
    }
  where
    step : (q : ℕ) → q < n → (q ≡ k) ⊎ (q ≢ k) → verdict_of (xs ++ Decided k r c ∷ []) k ≡ Some c
        → ((q : ℕ) → q ≢ k → verdict_of (xs ++ Decided k r c ∷ []) q ≡ verdict_of xs q)
        → known_at (slice_set t.verdicts k (Some c)) q ≡ verdict_of (xs ++ Decided k r c ∷ []) q
    step q l (inl is) own others =
        ap (λ (j : ℕ). known_at (slice_set t.verdicts k (Some c)) j) is
        ∙ get_or-set_same t.verdicts k (Some c) None (subst (λ (m : ℕ). k < m) (sym h.count) less)
        ∙ sym own ∙ ap (λ (j : ℕ). verdict_of (xs ++ Decided k r c ∷ []) j) (sym is)
    step q l (inr other) own others = get_or-set_other t.verdicts k q (Some c) None other ∙ h.each q l ∙ sym (others q other)

pub counted_said : (n : ℕ) (xs : List Record) (s : Statement) (t : TallyView) → AreCounted n xs t → AreCounted n (xs ++ Said s ∷ []) t
counted_said n xs s t h = stays n xs (xs ++ Said s ∷ []) t (λ q l. verdict-said xs s q) h

pub counted_decided : (n : ℕ) (xs : List Record) (k r : ℕ) (c : Bool) (t : TallyView) → AreCounted n xs t → AreCounted n (xs ++ Decided k r c ∷ []) (tallied t k c)
counted_decided n xs k r c t h = step (nat_lt k (length t.verdicts)) refl (known_at t.verdicts k) refl
  where
    other : (b : Bool) → nat_lt k (length t.verdicts) ≡ false → AreCounted n (xs ++ Decided k r c ∷ []) t
    other b e =
        let past : length t.verdicts ≤ k = grind (arith, nat_tests, e) in
        stays n xs (xs ++ Decided k r c ∷ []) t (λ q l. let apart : q ≢ k = (λ is. omega (arith, is, l, past, h.count)) in verdict-other xs k r c q (grind (arith, nat_tests, apart))) h

    again : (b : Bool) → nat_lt k (length t.verdicts) ≡ true → known_at t.verdicts k ≡ Some b → AreCounted n (xs ++ Decided k r c ∷ []) t
    again b e at =
        let within : k < length t.verdicts = grind (arith, nat_tests, e) in
        let was : verdict_of xs k ≡ Some b = sym (h.each k (subst (λ (m : ℕ). k < m) h.count within)) ∙ at in
        stays n xs (xs ++ Decided k r c ∷ []) t (λ q l. own q was (same_or_not q k)) h
      where
        own : (q : ℕ) → verdict_of xs k ≡ Some b → (q ≡ k) ⊎ (q ≢ k) → verdict_of (xs ++ Decided k r c ∷ []) q ≡ verdict_of xs q
        own q was (inl is) =
            ap (λ (j : ℕ). verdict_of (xs ++ Decided k r c ∷ []) j) is ∙ verdict-more xs (Decided k r c ∷ []) k b was ∙ sym was ∙ ap (λ (j : ℕ). verdict_of xs j) (sym is)
        own q was (inr apart) = verdict-other xs k r c q (grind (arith, nat_tests, apart))

    step : (b : Bool) → nat_lt k (length t.verdicts) ≡ b → (v : Option Bool) → known_at t.verdicts k ≡ v
        → AreCounted n (xs ++ Decided k r c ∷ [])
        (if b && is_none v then record { verdicts = slice_set t.verdicts k (Some c); decided = min (t.decided + 1) (2 ^ 16 - 1); order = t.order } else t)
    step false e v at = other false e
    step true e (Some b) at = again b e at
    step true e None at =
        let within : k < length t.verdicts = grind (arith, nat_tests, e) in
        grows n xs t k r c (subst (λ (m : ℕ). k < m) h.count within) at h

-- the tally of what was saved before leads to that of what is saved now
pub tallied_behind : (n : ℕ) (old new more : List Record) (count : ℕ) (before after : TallyView) → new ≡ old ++ more → count ≡ length old → IsTallied n old before
    → (IsTallied n (take count new) before → IsTallied n new after) → IsTallied n new after
tallied_behind n old new more count before after is long h on =
    let front : take count new ≡ old = ap (take count) is ∙ take-append-le count old more (omega (arith, long)) ∙ take_all count old (omega (arith, long)) in
    on (subst (λ (l : List Record). IsTallied n l before) (sym front) h)

-- what a book keeps says what it was asked
pub kept_verdict : {D : Type 0} (disk : DiskGhosts D) (names : List ℕ) (header : Header) (cells : List ℕ) (m : Member D) (opened : ℕ) (history : List Entry) (known : List (Option Bool)) (tally : TallyView)
    → IsKept disk names header cells m opened history known tally → (q : ℕ) → known_at tally.verdicts q ≡ verdict_of (member_saved m) q
kept_verdict disk names header cells m opened history known tally kept q = step (below_or_not q header.size.questions)
  where
    step : (q < header.size.questions) ⊎ (header.size.questions ≤ q) → known_at tally.verdicts q ≡ verdict_of (member_saved m) q
    step (inl less) = kept.tallied.counted.each q less
    step (inr past) =
        get_or_past tally.verdicts q None (subst (λ (n : ℕ). n ≤ q) (sym kept.tallied.counted.count) past)
        ∙ sym (ap bit_of (asked_decided (member_header m).size (member_saved m) q kept.sound.filed.asked (subst (λ (h : Header). h.size.questions ≤ q) (sym kept.header_is) past)))

pub kept_asked : {D : Type 0} (disk : DiskGhosts D) (names : List ℕ) (header : Header) (cells : List ℕ) (m : Member D) (opened : ℕ) (history : List Entry) (known : List (Option Bool)) (tally : TallyView)
    → IsKept disk names header cells m opened history known tally → (q : ℕ) → (member_header m).size.questions ≤ q → known_at tally.verdicts q ≡ None
kept_asked disk names header cells m opened history known tally kept q past =
    get_or_past tally.verdicts q None (subst (λ (n : ℕ). n ≤ q) (ap (λ (h : Header). h.size.questions) kept.header_is ∙ sym kept.tallied.counted.count) past)

pub kept_decided : {D : Type 0} (disk : DiskGhosts D) (names : List ℕ) (header : Header) (cells : List ℕ) (m : Member D) (opened : ℕ) (history : List Entry) (known : List (Option Bool)) (tally : TallyView)
    → IsKept disk names header cells m opened history known tally → tally.decided ≡ decided_below (member_header m).size.questions (member_saved m)
kept_decided disk names header cells m opened history known tally kept =
    kept.tallied.counted.decided ∙ ap (λ (h : Header). decided_below h.size.questions (member_saved m)) (sym kept.header_is)
