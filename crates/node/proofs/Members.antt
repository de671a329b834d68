-- A history names members alone: what a member refuses for its numbers is never noted.
use Rattle.std.proofs.Common.{ℕ, zero, suc, ◌≡◌, ◌<◌, Bool, true, false, ◌||◌, nat_le, if◌then◌else◌, refl, sym, subst, arith, Option, Some, None, List, [], ◌∷◌, ◌++◌}
use Rattle.std.proofs.lemmas.List.Elements.{All-append}
use Rattle.std.specs.List.{list_any}
use Rattle.terms_prelude.specs.Terms.{Statement, Size, Reply, Foreign, Repeat, Have, Taken, Hearing, keep_or, without_tosses}
use Rattle.questions.specs.Audits.{AreOfMembers}
use Rattle.questions.specs.Faults.{number_fault}
use Rattle.questions.specs.Words.{Entry, Heard, Proposed, entry_event, entry_statements}
use Rattle.questions.specs.declared.answer.CoreFault.TheVariants as cores
use Rattle.questions.proofs.Listing.{no_stranger}
use Rattle.member.specs.declared.fault.MemberFault.{MemberFault}
use Rattle.member.specs.declared.fault.MemberFault.TheVariants.{Stopped}
use Rattle.member.specs.declared.member.Member.{Member}
use Rattle.member.specs.Words.{bad_number, event_members, event_question, fault_of, member_header, member_is_stopped, refusal, refusal_of_all}
use Rattle.node.specs.Words.{lengthened, lengthened_all}

-- none of the numbers names a stranger, where nothing is refused
strange_not : (over strange : Bool) → fault_of (if over then Some cores.NoSuchQuestion else (if strange then Some cores.NoSuchMember else None)) ≡ None → strange ≡ false
strange_not true strange h = cc
strange_not false true h = cc
strange_not false false h = refl

up_too : (stopped : Bool) (fault : Option MemberFault) → (if stopped then Some Stopped else fault) ≡ None → fault ≡ None
up_too true fault h = cc
up_too false fault h = h

in_pairs : (p q : Bool) → p || (q || false) ≡ false → (p || q) || false ≡ false
in_pairs true q h = cc
in_pairs false true h = cc
in_pairs false false h = refl

one_named : (size : Size) (a : ℕ) (s : Statement) → fault_of (number_fault size (event_question (Hearing a s)) (event_members (Hearing a s))) ≡ None → AreOfMembers size ((a, s) ∷ [])
one_named size a s h =
    no_stranger size ((a, s) ∷ [])
    (in_pairs (nat_le size.n a) (nat_le size.n s.place.origin) (strange_not (nat_le size.questions s.place.question) (list_any (λ x. nat_le size.n x) (a ∷ s.place.origin ∷ [])) h))

-- nobody is named in an empty list
none_named : (size : Size) → AreOfMembers size []
none_named size k d l = absurd (omega (arith, l))

-- the first of several, and the others
first_of : (size : Size) (x : ℕ × Statement) (xs : List (ℕ × Statement)) → AreOfMembers size (x ∷ xs) → AreOfMembers size (x ∷ [])
first_of size x xs h zero d l = h 0 d (omega arith)
first_of size x xs h (suc k) d l = absurd (omega (arith, l))

others_of : (size : Size) (x : ℕ × Statement) (xs : List (ℕ × Statement)) → AreOfMembers size (x ∷ xs) → AreOfMembers size xs
others_of size x xs h k d l = h (suc k) d (omega (arith, l))

statements_append : (xs ys : List Entry) → entry_statements (xs ++ ys) ≡ entry_statements xs ++ entry_statements ys
statements_append [] ys = refl
statements_append (Heard a s toss ∷ xs) ys = λ i. (a, s) ∷ statements_append xs ys i
statements_append (Proposed q b toss ∷ xs) ys = statements_append xs ys

-- an event that isn't refused names members
pub event_named : {D : Type 0} (m : Member D) (e : Entry) → refusal m (entry_event e) ≡ None → AreOfMembers (member_header m).size (entry_statements (e ∷ []))
event_named m (Heard a s toss) h = one_named (member_header m).size a s (up_too (member_is_stopped m) _ h)
event_named m (Proposed q b toss) h = none_named (member_header m).size

-- and so does the history with it
pub named_lengthened : (size : Size) (history : List Entry) (e : Entry) (r : Reply)
    → AreOfMembers size (entry_statements history) → AreOfMembers size (entry_statements (e ∷ [])) → AreOfMembers size (entry_statements (lengthened history e r))
named_lengthened size history e Foreign h n = h
named_lengthened size history e Repeat h n = h
named_lengthened size history e (Have bit) h n = h
named_lengthened size history e (Taken records) h n =
    subst (λ (l : List (ℕ × Statement)). AreOfMembers size l) (sym (statements_append history (e ∷ [])))
    (All-append (λ x. (x.0 < size.n) × (x.1.place.origin < size.n)) (entry_statements history) (entry_statements (e ∷ [])) h n)

-- the same of a group
all_named : (size : Size) (es : List (ℕ × Statement × ℕ)) → bad_number size es ≡ None → AreOfMembers size (without_tosses es)
all_named size [] h = none_named size
all_named size (e ∷ es) h =
    step (fault_of (number_fault size (event_question (Hearing e.0 e.1)) (event_members (Hearing e.0 e.1)))) refl h (λ none. all_named size es none)
  where
    step : (first : Option MemberFault) → fault_of (number_fault size (event_question (Hearing e.0 e.1)) (event_members (Hearing e.0 e.1))) ≡ first
        → keep_or first (bad_number size es) ≡ None → (bad_number size es ≡ None → AreOfMembers size (without_tosses es))
        → AreOfMembers size (without_tosses (e ∷ es))
    step None is none others =
        All-append (λ x. (x.0 < size.n) × (x.1.place.origin < size.n)) ((e.0, e.1) ∷ []) (without_tosses es) (one_named size e.0 e.1 is) (others none)
    step (Some fault) is none others = cc

pub group_named : {D : Type 0} (m : Member D) (es : List (ℕ × Statement × ℕ)) → refusal_of_all m es ≡ None → AreOfMembers (member_header m).size (without_tosses es)
group_named m es h = all_named (member_header m).size es (up_too (member_is_stopped m) _ h)

pub named_lengthened_all : (size : Size) (history : List Entry) (es : List (ℕ × Statement × ℕ)) (rs : List Reply)
    → AreOfMembers size (entry_statements history) → AreOfMembers size (without_tosses es) → AreOfMembers size (entry_statements (lengthened_all history es rs))
named_lengthened_all size history [] rs h n = h
named_lengthened_all size history (e ∷ es) [] h n = h
named_lengthened_all size history (e ∷ es) (r ∷ rs) h n =
    named_lengthened_all size (lengthened history (Heard e.0 e.1 e.2) r) es rs
    (named_lengthened size history (Heard e.0 e.1 e.2) r h (first_of size (e.0, e.1) (without_tosses es) n)) (others_of size (e.0, e.1) (without_tosses es) n)
