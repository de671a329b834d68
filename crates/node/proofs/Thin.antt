-- What was heard since the opening is proof of what was decided since then.
use Rattle.std.proofs.Common.{ℕ, ◌≡◌, zero, suc, arith, ◌<◌, ◌+◌, ◌*◌, ◌==◌, Bool, true, false, cond, refl, sym, ap, subst, ◌∙◌, Option, Some, None, List, [], ◌∷◌, take}
use Rattle.terms_prelude.specs.Terms.{Header, Record, Statement, Size, IsAudit, AtLeast, IsValid, Accepted, sure, pairs_on, hear_all, decided}
use Rattle.questions.specs.Audits.{AreOfMembers, IsProof}
use Rattle.questions.specs.Replay.{Entry, IsReplay, entry_statements}
use Rattle.questions.proofs.Showing.{replay_shows}
use Rattle.disk.specs.declared.device.Disk.{Ghosts as DiskGhosts}
use Rattle.member.specs.declared.member.Member.{Member}
use Rattle.member.specs.Words.{bit_of, verdict_of, member_header, member_saved}
use Rattle.node.specs.Words.{IsKept, TallyView, heard_on}

-- the pairs on a question are all on it
on_again : (q : ℕ) (pairs : List (ℕ × Statement)) → pairs_on q (pairs_on q pairs) ≡ pairs_on q pairs
on_again q [] = refl
on_again q (e ∷ es) = step (e.1.place.question == q) refl (on_again q es)
  where
    step : (b : Bool) → (e.1.place.question == q) ≡ b → pairs_on q (pairs_on q es) ≡ pairs_on q es
        → pairs_on q (cond b (e ∷ pairs_on q es) (pairs_on q es)) ≡ cond b (e ∷ pairs_on q es) (pairs_on q es)
    step true t h = ap (λ b. cond b (e ∷ pairs_on q (pairs_on q es)) (pairs_on q (pairs_on q es))) t ∙ ap (λ (l : List (ℕ × Statement)). e ∷ l) h
    step false t h = h

-- and name members where all do
on_members : (size : Size) (q : ℕ) (pairs : List (ℕ × Statement)) → AreOfMembers size pairs → AreOfMembers size (pairs_on q pairs)
on_members size q [] h = h
on_members size q (e ∷ es) h =
    step (e.1.place.question == q) (on_members size q es (λ k d l. h (suc k) d (omega (arith, l))))
  where
    step : (b : Bool) → AreOfMembers size (pairs_on q es) → AreOfMembers size (cond b (e ∷ pairs_on q es) (pairs_on q es))
    step true g zero d l = h 0 d (omega arith)
    step true g (suc k) d l = g k d (omega (arith, l))
    step false g k d l = g k d l

-- the decision of a verdict
round_of : (o : Option (ℕ × Bool)) (bit : Bool) → bit_of o ≡ Some bit → (r : ℕ) × (o ≡ Some (r, bit))
round_of None bit h = cc
round_of (Some d) bit h = let e : d.1 ≡ bit = cc in (d.0, ap (λ (x : Bool). Some (d.0, x)) e)

none_of : (o : Option (ℕ × Bool)) → bit_of o ≡ None → o ≡ None
none_of None h = refl
none_of (Some d) h = cc

not_thin : (size : Size) (me : ℕ) (opening saved : List Record) (history : List Entry)
    → IsReplay size me opening history saved (hear_all [] (entry_statements history)) → AreOfMembers size (entry_statements history)
    → (question : ℕ) → question < size.questions → (bit : Bool) → verdict_of saved question ≡ Some bit → verdict_of opening question ≡ None
    → IsProof size question bit (heard_on question history)
not_thin size me opening saved history replayed named question asked bit verdict before =
    let d = round_of (decided saved question) bit verdict in
    let audit : IsAudit size (entry_statements history) question bit =
    replay_shows size me opening history saved (hear_all [] (entry_statements history)) replayed question d.0 bit (none_of (decided opening question) before) d.1 in
    record {
      asked = asked;
      members = on_members size question (entry_statements history) named;
      shows = subst (λ (l : List (ℕ × Statement)). Shown size question bit l) (sym (on_again question (entry_statements history))) audit;
    }
  where
    Shown : Size → ℕ → Bool → List (ℕ × Statement) → Type 0
    Shown size q bit l = (round : ℕ) × AtLeast size.n (2 * size.t + 1) (λ a. IsValid size (Accepted size l) q round 3 a (sure bit))

-- what a book heard is proof of what it decided since its opening
pub kept_shows : {D : Type 0} (disk : DiskGhosts D) (names : List ℕ) (header : Header) (cells : List ℕ) (m : Member D) (opened : ℕ) (history : List Entry) (known : List (Option Bool)) (tally : TallyView)
    → IsKept disk names header cells m opened history known tally → (question : ℕ) (bit : Bool) → question < (member_header m).size.questions
    → verdict_of (member_saved m) question ≡ Some bit → verdict_of (take opened (member_saved m)) question ≡ None
    → IsProof (member_header m).size question bit (heard_on question history)
kept_shows disk names header cells m opened history known tally kept question bit asked verdict before =
    not_thin (member_header m).size (member_header m).me (take opened (member_saved m)) (member_saved m) history kept.replayed.records
    (subst (λ (h : Header). AreOfMembers h.size (entry_statements history)) (sym kept.header_is) kept.named) question asked bit verdict before
