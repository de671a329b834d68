-- Lines of the head.
use Rattle.std.proofs.Common.{ℕ, ◌≡◌, sym, ap, ◌∙◌, subst, ◌+◌, ◌<◌, ◌≤◌, append-nil, refl, inl, inr, ◌⊎◌, codes, Option, Some, List, [], ◌∷◌, ◌++◌, length, drop, get_or, Bor, append_assoc, slice_get}
use Rattle.script.specs.Words.{IsMember, AreMembers, words_of, texts, ScriptFault, Page, page_from, HasLine, number_or, IsNumberNamed, AreListedLiars, IsSeed, MakeSize, IsHead, IsHeadFault, HeadFailsOr, IsFirstFault, LacksLine, at_start, Made, correct_below, BreakBy}
use Rattle.std.proofs.lemmas.List.{drop_all}
use Rattle.script.proofs.Counting.{next_of}
use Rattle.script.specs.declared.fault.ScriptFault.TheVariants as faults
use Rattle.terms_prelude.specs.Terms.{Size, SizeFault, size_fault}

-- a line whose words aren't of the form
pub lacks : {A : Type 0} (page : Page) (place : ℕ) (Form : List (List ℕ) → A → Type 0) (fault : ScriptFault) (number : ℕ) (text : List ℕ) (words : List (List ℕ))
    → slice_get page.said place ≡ Some (number, text) → words ≡ words_of text → ((x : A) → Form words x → ⊥) → fault ≡ faults.Line number
    → LacksLine page place Form fault
lacks page place Form fault number text words there words_are none fault_is = record {
  none = λ x h.
      let same : ◌≡◌ {A = Option (ℕ × List ℕ)} (Some h.line) (Some (number, text)) = sym h.there ∙ there in
      let line : h.line ≡ (number, text) = cc in
      none x (subst (λ (w : List (List ℕ)). Form w x) (sym (words_are ∙ ap (λ (l : ℕ × List ℕ). words_of l.1) (sym line))) h.form);
  fault_is = fault_is ∙ ap (λ (k : ℕ). faults.Line k) (sym (ap (λ (o : Option (ℕ × List ℕ)). number_or page.next o) there));
}

-- the members that were read of words up to an index, and those that are left
pub record Listing (words : List (Bor (List ℕ))) (i : ℕ) (items : List ℕ) : Type 0 where
  pub sound : (rest : List ℕ) → AreMembers (texts (drop i words)) rest → AreMembers (texts words) (items ++ rest)
  pub whole : (all : List ℕ) → AreMembers (texts words) all → (rest : List ℕ) × (all ≡ items ++ rest) × AreMembers (texts (drop i words)) rest

-- one member more
pub one_more : (words : List (Bor (List ℕ))) (i : ℕ) (d : Bor (List ℕ)) (items : List ℕ) (m : ℕ) → i < length words
    → IsMember (get_or words i d).now m → ((k : ℕ) → IsMember (get_or words i d).now k → ◌≡◌ {A = Option ℕ} (Some m) (Some k))
    → Listing words i items → Listing words (i + 1) (items ++ m ∷ [])
one_more words i d items m lt is only before = record {
  sound = λ rest h. subst (λ (ms : List ℕ). AreMembers (texts words) ms) (sym (append_assoc items (m ∷ []) rest))
      (before.sound (m ∷ rest) (subst (λ (ws : List (Bor (List ℕ))). AreMembers (texts ws) (m ∷ rest)) (sym (next_of words i d lt)) (is, h)));
  whole = λ all h.
      let r = before.whole all h in
      found all r.0 r.1 (subst (λ (ws : List (Bor (List ℕ))). AreMembers (texts ws) r.0) (next_of words i d lt) r.2);
}
  where
    found : (all rest : List ℕ) → all ≡ items ++ rest → AreMembers ((get_or words i d).now ∷ texts (drop (i + 1) words)) rest
        → (left : List ℕ) × (all ≡ (items ++ m ∷ []) ++ left) × AreMembers (texts (drop (i + 1) words)) left
    found all [] e f = absurd f
    found all (k ∷ rest) e f =
        let o = only k f.0 in
        let same : m ≡ k = cc in
        (rest, e ∙ (ap (λ (x : ℕ). items ++ x ∷ rest) (sym same) ∙ sym (append_assoc items (m ∷ []) rest)), f.1)

-- all were read
pub all_listed : (words : List (Bor (List ℕ))) (i : ℕ) (items : List ℕ) → length words ≤ i → Listing words i items → AreMembers (texts words) items
all_listed words i items most l =
    subst (λ (ms : List ℕ). AreMembers (texts words) ms) (append-nil items)
    (l.sound [] (subst (λ (ws : List (Bor (List ℕ))). AreMembers (texts ws) []) (sym (drop_all i words most)) tt))

-- the first fault is in the size
pub of_size : (page : Page) (n t questions : ℕ) (wrong : SizeFault)
    → HasLine page 0 (IsNumberNamed (codes "n")) n → HasLine page 1 (IsNumberNamed (codes "t")) t → HasLine page 2 (IsNumberNamed (codes "questions")) questions
    → size_fault n t questions ≡ Some wrong → IsHeadFault page (faults.Size wrong)
of_size page n t questions wrong a b c e = inr (n, a, inr (t, b, inr (questions, c, inl (wrong, e, refl))))

-- it is in the line of liars, or memory was refused there
pub of_liars : (page : Page) (n t questions : ℕ) (size : Size) (fault : ScriptFault)
    → HasLine page 0 (IsNumberNamed (codes "n")) n → HasLine page 1 (IsNumberNamed (codes "t")) t → HasLine page 2 (IsNumberNamed (codes "questions")) questions
    → MakeSize n t questions size → (fault ≡ faults.Memory) ⊎ LacksLine page 3 AreListedLiars fault → (fault ≡ faults.Memory) ⊎ IsHeadFault page fault
of_liars page n t questions size fault a b c s (inl e) = inl e
of_liars page n t questions size fault a b c s (inr l) = inr (inr (n, a, inr (t, b, inr (questions, c, inr (size, s, inl l)))))

-- it is in the line of the seed, or memory was refused there
pub of_seed : (page : Page) (n t questions : ℕ) (size : Size) (liars : List ℕ) (fault : ScriptFault)
    → HasLine page 0 (IsNumberNamed (codes "n")) n → HasLine page 1 (IsNumberNamed (codes "t")) t → HasLine page 2 (IsNumberNamed (codes "questions")) questions
    → MakeSize n t questions size → HasLine page 3 AreListedLiars liars
    → (fault ≡ faults.Memory) ⊎ LacksLine page 4 IsSeed fault → (fault ≡ faults.Memory) ⊎ IsHeadFault page fault
of_seed page n t questions size liars fault a b c s l (inl e) = inl e
of_seed page n t questions size liars fault a b c s l (inr k) =
    inr (inr (n, a, inr (t, b, inr (questions, c, inr (size, s, inr (liars, l, inl k))))))

-- a first fault of the head is the first of all
pub weaken : (page : Page) (fault : ScriptFault) (Later : Size → List ℕ → ℕ → ScriptFault → Type 0) → IsHeadFault page fault → HeadFailsOr page Later fault
weaken page fault Later (inl k) = inl k
weaken page fault Later (inr (n, a, inl k)) = inr (n, a, inl k)
weaken page fault Later (inr (n, a, inr (t, b, inl k))) = inr (n, a, inr (t, b, inl k))
weaken page fault Later (inr (n, a, inr (t, b, inr (q, c, inl k)))) = inr (n, a, inr (t, b, inr (q, c, inl k)))
weaken page fault Later (inr (n, a, inr (t, b, inr (q, c, inr (size, s, inl k))))) = inr (n, a, inr (t, b, inr (q, c, inr (size, s, inl k))))
weaken page fault Later (inr (n, a, inr (t, b, inr (q, c, inr (size, s, inr (liars, l, inl k)))))) =
    inr (n, a, inr (t, b, inr (q, c, inr (size, s, inr (liars, l, inl k)))))
weaken page fault Later (inr (n, a, inr (t, b, inr (q, c, inr (size, s, inr (liars, l, inr (seed, k, h))))))) = absurd h

-- a first fault of the head, or memory was refused there
pub in_head : (text : List ℕ) (fault : ScriptFault) → (fault ≡ faults.Memory) ⊎ IsHeadFault (page_from text) fault
    → (fault ≡ faults.Memory) ⊎ IsFirstFault text fault
in_head text fault (inl e) = inl e
in_head text fault (inr h) =
    inr (weaken (page_from text) fault (λ size liars seed. BreakBy size (correct_below size.n liars) (at_start seed) (drop 5 (page_from text).said)) h)

-- a first fault of the events, or memory was refused there
pub in_events : (text : List ℕ) (fault : ScriptFault) (size : Size) (liars : List ℕ) (seed : ℕ) → IsHead (page_from text) size liars seed
    → (fault ≡ faults.Memory) ⊎ BreakBy size (correct_below size.n liars) (at_start seed) (drop 5 (page_from text).said) fault
    → (fault ≡ faults.Memory) ⊎ IsFirstFault text fault
in_events text fault size liars seed head (inl e) = inl e
in_events text fault size liars seed head (inr b) =
    inr (inr (
      head.n,
      head.n_is,
      inr (
        head.t,
        head.t_is,
        inr (
          head.questions,
          head.questions_is,
          inr (size, head.size_is, inr (liars, head.liars_are, inr (seed, head.seed_is, b))),
        ),
      ),
    ))

-- the same, of what the code has for the parts
pub in_events_of : (text : List ℕ) (fault : ScriptFault) (size : Size) (liars : List ℕ) (seed : ℕ) (page : Page) (correct : List ℕ) (start : Made) (lines : List (ℕ × List ℕ))
    → page ≡ page_from text → correct ≡ correct_below size.n liars → start ≡ at_start seed → lines ≡ drop 5 page.said
    → IsHead page size liars seed → (fault ≡ faults.Memory) ⊎ BreakBy size correct start lines fault
    → (fault ≡ faults.Memory) ⊎ IsFirstFault text fault
in_events_of text fault size liars seed page correct start lines page_is correct_is start_is lines_are head h =
    in_events text fault size liars seed (subst (λ (p : Page). IsHead p size liars seed) page_is head)
    (subst (λ (ls : List (ℕ × List ℕ)). (fault ≡ faults.Memory) ⊎ BreakBy size (correct_below size.n liars) (at_start seed) ls fault)
    (lines_are ∙ ap (λ (p : Page). drop 5 p.said) page_is)
    (subst (λ (m : Made). (fault ≡ faults.Memory) ⊎ BreakBy size (correct_below size.n liars) m lines fault) start_is
    (subst (λ (c : List ℕ). (fault ≡ faults.Memory) ⊎ BreakBy size c start lines fault) correct_is h)))
