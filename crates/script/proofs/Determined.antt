-- A text has one script or one first fault, and not both.
use Rattle.std.proofs.Common.{ℕ, ◌≡◌, sym, ap, ◌∙◌, subst, arith, inl, inr, Option, Some, None, List, [], ◌∷◌, length, drop, map, codes}
use Rattle.terms_prelude.specs.Terms.{Size, SizeFault}
use Rattle.script.specs.Words.{ScriptFault, Script, words_of, IsCount, IsLong, AreMembers, Page, page_from, HasLine, tossed_act, ScriptStep, Made, after_step, correct_below, LeadsBy, LeadTo, BreaksAt, BreakBy, IsNumberNamed, AreListedLiars, IsSeed, MakeSize, at_start, IsScript, FailsOr, SizeFailsOr, IsFirstFault}
use Rattle.script.proofs.Exact.{IsExact, one_below, one_members, one_step}

one_named : (name : List ℕ) → IsExact (IsNumberNamed name)
one_named name ws x y (v, e, h) (w, f, g) =
    let p : name ∷ v ∷ [] ≡ name ∷ w ∷ [] = sym e ∙ f in
    let q : v ≡ w = cc in
    one_below 16 v x y h (subst (λ (u : List ℕ). IsCount u y) (sym q) g)

one_liars : IsExact AreListedLiars
one_liars ws x y (v, e, h) (w, f, g) =
    let p : codes "liars" ∷ v ≡ codes "liars" ∷ w = sym e ∙ f in
    let q : v ≡ w = cc in
    one_members v x y h (subst (λ (u : List (List ℕ)). AreMembers u y) (sym q) g)

one_seed : IsExact IsSeed
one_seed ws x y (v, e, h) (w, f, g) =
    let p : codes "seed" ∷ v ∷ [] ≡ codes "seed" ∷ w ∷ [] = sym e ∙ f in
    let q : v ≡ w = cc in
    one_below 64 v x y h (subst (λ (u : List ℕ). IsLong u y) (sym q) g)

-- a line at a place is of a form in one way
one_line : {A : Type 0} (page : Page) (place : ℕ) (Form : List (List ℕ) → A → Type 0) → IsExact Form → (x y : A)
    → HasLine page place Form x → HasLine page place Form y → x ≡ y
one_line page place Form exact x y h g =
    let e : ◌≡◌ {A = Option (ℕ × List ℕ)} (Some h.line) (Some g.line) = sym h.there ∙ g.there in
    let f : h.line ≡ g.line = cc in
    exact (words_of h.line.1) x y h.form (subst (λ (l : ℕ × List ℕ). Form (words_of l.1) y) (sym f) g.form)

one_next : (size : Size) (correct : List ℕ) (before : Made) (line : ℕ × List ℕ) (x y : Made) → LeadsBy size correct before line x → LeadsBy size correct before line y → x ≡ y
one_next size correct before line x y (s, h, a) (t, g, b) =
    let e = one_step (words_of line.1) s t h g in
    a.there ∙ (ap (λ (z : ScriptStep). after_step size correct z before) e ∙ sym b.there)

pub one_leading : (size : Size) (correct : List ℕ) (before : Made) (lines : List (ℕ × List ℕ)) (x y : Made)
    → LeadTo size correct before lines x → LeadTo size correct before lines y → x ≡ y
one_leading size correct before [] x y h g = sym h ∙ g
one_leading size correct before (line ∷ lines) x y (next, h, a) (other, g, b) =
    let e = one_next size correct before line next other h g in
    one_leading size correct next lines x y a (subst (λ (m : Made). LeadTo size correct m lines y) (sym e) b)

-- a line that leads on doesn't break
no_break : (size : Size) (correct : List ℕ) (before : Made) (line : ℕ × List ℕ) (next : Made) (fault : ScriptFault)
    → LeadsBy size correct before line next → BreaksAt size correct before line fault → ⊥
no_break size correct before line next fault (s, h, a) (inl b) = b.0 s h
no_break size correct before line next fault (s, h, a) (inr (t, g, over)) =
    let e = one_step (words_of line.1) s t h g in
    let n = ap (λ (z : ScriptStep). length (after_step size correct z before).events) e in
    let few = a.few in
    let many = over.0 in
    absurd (omega arith)

pub not_both : (size : Size) (correct : List ℕ) (before : Made) (lines : List (ℕ × List ℕ)) (x : Made) (fault : ScriptFault)
    → LeadTo size correct before lines x → BreakBy size correct before lines fault → ⊥
not_both size correct before [] x fault h g = g
not_both size correct before (line ∷ lines) x fault (next, h, a) (inl b) = no_break size correct before line next fault h b
not_both size correct before (line ∷ lines) x fault (next, h, a) (inr (other, g, b)) =
    let e = one_next size correct before line next other h g in
    not_both size correct next lines x fault a (subst (λ (m : Made). BreakBy size correct m lines fault) (sym e) b)

one_fault_at : (size : Size) (correct : List ℕ) (before : Made) (line : ℕ × List ℕ) (f g : ScriptFault)
    → BreaksAt size correct before line f → BreaksAt size correct before line g → f ≡ g
one_fault_at size correct before line f g (inl a) (inl b) = a.1 ∙ sym b.1
one_fault_at size correct before line f g (inl a) (inr (t, h, b)) = absurd (a.0 t h)
one_fault_at size correct before line f g (inr (t, h, a)) (inl b) = absurd (b.0 t h)
one_fault_at size correct before line f g (inr (t, h, a)) (inr (s, i, b)) = a.1 ∙ sym b.1

pub one_break : (size : Size) (correct : List ℕ) (before : Made) (lines : List (ℕ × List ℕ)) (f g : ScriptFault)
    → BreakBy size correct before lines f → BreakBy size correct before lines g → f ≡ g
one_break size correct before [] f g a b = absurd a
one_break size correct before (line ∷ lines) f g (inl a) (inl b) = one_fault_at size correct before line f g a b
one_break size correct before (line ∷ lines) f g (inl a) (inr (next, h, b)) = absurd (no_break size correct before line next f h a)
one_break size correct before (line ∷ lines) f g (inr (next, h, a)) (inl b) = absurd (no_break size correct before line next g h b)
one_break size correct before (line ∷ lines) f g (inr (next, h, a)) (inr (other, i, b)) =
    let e = one_next size correct before line next other h i in
    one_break size correct next lines f g a (subst (λ (m : Made). BreakBy size correct m lines g) (sym e) b)

-- where the line is there, the fault is a later one
later : {A : Type 0} (page : Page) (place : ℕ) (Form : List (List ℕ) → A → Type 0) (Later : A → ScriptFault → Type 0) (fault : ScriptFault) → IsExact Form → (x : A)
    → HasLine page place Form x → FailsOr page place Form Later fault → Later x fault
later {A} page place Form Later fault exact x h (inl k) = absurd (k.none x h)
later {A} page place Form Later fault exact x h (inr (y, g, l)) =
    subst (λ (z : A). Later z fault) (one_line page place Form exact y x g h) l

one_size : (n t questions : ℕ) (x y : Size) → MakeSize n t questions x → MakeSize n t questions y → x ≡ y
one_size n t questions x y h g = h.size_is ∙ sym g.size_is

later_size : (n t questions : ℕ) (Later : Size → ScriptFault → Type 0) (fault : ScriptFault) (size : Size) → MakeSize n t questions size
    → SizeFailsOr n t questions Later fault → Later size fault
later_size n t questions Later fault size h (inl (wrong, e, f)) =
    let g : ◌≡◌ {A = Option SizeFault} None (Some wrong) = sym h.sound ∙ e in cc
later_size n t questions Later fault size h (inr (other, g, l)) =
    subst (λ (z : Size). Later z fault) (one_size n t questions other size g h) l

-- two faults at a line, or behind it
one_failing : {A : Type 0} (page : Page) (place : ℕ) (Form : List (List ℕ) → A → Type 0) (Later : A → ScriptFault → Type 0) (f g : ScriptFault) → IsExact Form
    → ((x : A) → Later x f → Later x g → f ≡ g) → FailsOr page place Form Later f → FailsOr page place Form Later g → f ≡ g
one_failing page place Form Later f g exact same (inl a) (inl b) = a.fault_is ∙ sym b.fault_is
one_failing page place Form Later f g exact same (inl a) (inr (x, h, b)) = absurd (a.none x h)
one_failing page place Form Later f g exact same (inr (x, h, a)) b = same x a (later page place Form Later g exact x h b)

one_size_failing : (n t questions : ℕ) (Later : Size → ScriptFault → Type 0) (f g : ScriptFault) → ((x : Size) → Later x f → Later x g → f ≡ g)
    → SizeFailsOr n t questions Later f → SizeFailsOr n t questions Later g → f ≡ g
one_size_failing n t questions Later f g same (inl (w, a, b)) (inl (v, c, d)) =
    let e : ◌≡◌ {A = Option SizeFault} (Some w) (Some v) = sym a ∙ c in cc
one_size_failing n t questions Later f g same (inl (w, a, b)) (inr (x, h, l)) =
    let e : ◌≡◌ {A = Option SizeFault} None (Some w) = sym h.sound ∙ a in cc
one_size_failing n t questions Later f g same (inr (x, h, l)) b = same x l (later_size n t questions Later g x h b)

-- the later faults, behind each part of the head
abbrev pub BehindSeed : Page → Size → List ℕ → ℕ → ScriptFault → Type 0
BehindSeed page size liars = λ seed. BreakBy size (correct_below size.n liars) (at_start seed) (drop 5 page.said)

abbrev pub BehindLiars : Page → Size → List ℕ → ScriptFault → Type 0
BehindLiars page size = λ liars. FailsOr page 4 IsSeed (BehindSeed page size liars)

abbrev pub BehindSize : Page → Size → ScriptFault → Type 0
BehindSize page = λ size. FailsOr page 3 AreListedLiars (BehindLiars page size)

abbrev pub BehindQuestions : Page → ℕ → ℕ → ℕ → ScriptFault → Type 0
BehindQuestions page n t = λ questions. SizeFailsOr n t questions (BehindSize page)

abbrev pub BehindT : Page → ℕ → ℕ → ScriptFault → Type 0
BehindT page n = λ t. FailsOr page 2 (IsNumberNamed (codes "questions")) (BehindQuestions page n t)

abbrev pub BehindN : Page → ℕ → ScriptFault → Type 0
BehindN page = λ n. FailsOr page 1 (IsNumberNamed (codes "t")) (BehindT page n)

pub one_first_fault : (text : List ℕ) (f g : ScriptFault) → IsFirstFault text f → IsFirstFault text g → f ≡ g
one_first_fault text f g =
    let page = page_from text in
    one_failing page 0 (IsNumberNamed (codes "n")) (BehindN page) f g (one_named (codes "n")) (λ n.
    one_failing page 1 (IsNumberNamed (codes "t")) (BehindT page n) f g (one_named (codes "t")) (λ t.
    one_failing page 2 (IsNumberNamed (codes "questions")) (BehindQuestions page n t) f g (one_named (codes "questions")) (λ questions.
    one_size_failing n t questions (BehindSize page) f g (λ size.
    one_failing page 3 AreListedLiars (BehindLiars page size) f g one_liars (λ liars.
    one_failing page 4 IsSeed (BehindSeed page size liars) f g one_seed (λ seed.
    one_break size (correct_below size.n liars) (at_start seed) (drop 5 page.said) f g))))))

pub script_or_fault : (text : List ℕ) (script : Script) (fault : ScriptFault) → IsScript text script → IsFirstFault text fault → ⊥
script_or_fault text script fault s f =
    let page = page_from text in
    let h = s.head in
    let a = later page 0 (IsNumberNamed (codes "n")) (BehindN page) fault (one_named (codes "n")) h.n h.n_is f in
    let b = later page 1 (IsNumberNamed (codes "t")) (BehindT page h.n) fault (one_named (codes "t")) h.t h.t_is a in
    let c = later page 2 (IsNumberNamed (codes "questions")) (BehindQuestions page h.n h.t) fault (one_named (codes "questions")) h.questions h.questions_is b in
    let d = later_size h.n h.t h.questions (BehindSize page) fault script.size h.size_is c in
    let e = later page 3 AreListedLiars (BehindLiars page script.size) fault one_liars script.liars.items h.liars_are d in
    let g = later page 4 IsSeed (BehindSeed page script.size script.liars.items) fault one_seed s.seed h.seed_is e in
    not_both script.size (correct_below script.size.n script.liars.items) (at_start s.seed) (drop 5 page.said) s.last fault s.steps g

pub one_script : (text : List ℕ) (a b : Script) → IsScript text a → IsScript text b
    → (a.size ≡ b.size) × (a.liars.items ≡ b.liars.items) × (map tossed_act a.events.items ≡ map tossed_act b.events.items)
one_script text a b s t =
    let page = page_from text in
    let h = s.head in
    let g = t.head in
    let n = one_line page 0 (IsNumberNamed (codes "n")) (one_named (codes "n")) h.n g.n h.n_is g.n_is in
    let m = one_line page 1 (IsNumberNamed (codes "t")) (one_named (codes "t")) h.t g.t h.t_is g.t_is in
    let q = one_line page 2 (IsNumberNamed (codes "questions")) (one_named (codes "questions")) h.questions g.questions h.questions_is g.questions_is in
    let l = one_line page 3 AreListedLiars one_liars a.liars.items b.liars.items h.liars_are g.liars_are in
    let d = one_line page 4 IsSeed one_seed s.seed t.seed h.seed_is g.seed_is in
    let z : a.size ≡ b.size = same_size h.n g.n h.t g.t h.questions g.questions a.size b.size n m q h.size_is g.size_is in
    let x = one_leading a.size (correct_below a.size.n a.liars.items) (at_start s.seed) (drop 5 page.said) s.last t.last s.steps
    (moved b.size a.size b.liars.items a.liars.items t.seed s.seed (drop 5 page.said) t.last (sym z) (sym l) (sym d) t.steps)
    in
    (z, l, s.events_are ∙ (ap (λ (made : Made). made.events) x ∙ sym t.events_are))
  where
    same_size : (n o t u q r : ℕ) (x y : Size) → n ≡ o → t ≡ u → q ≡ r → MakeSize n t q x → MakeSize o u r y → x ≡ y
    same_size n o t u q r x y e f g h i =
        one_size n t q x y h
        (subst (λ (k : ℕ). MakeSize k t q y) (sym e) (subst (λ (k : ℕ). MakeSize o k q y) (sym f) (subst (λ (k : ℕ). MakeSize o u k y) (sym g) i)))

    moved : (x y : Size) (l m : List ℕ) (c d : ℕ) (lines : List (ℕ × List ℕ)) (last : Made) → x ≡ y → l ≡ m → c ≡ d
        → LeadTo x (correct_below x.n l) (at_start c) lines last → LeadTo y (correct_below y.n m) (at_start d) lines last
    moved x y l m c d lines last e f g h =
        subst (λ (z : Size). LeadTo z (correct_below z.n m) (at_start d) lines last) e
        (subst (λ (z : List ℕ). LeadTo x (correct_below x.n z) (at_start d) lines last) f
        (subst (λ (z : ℕ). LeadTo x (correct_below x.n l) (at_start z) lines last) g h))
