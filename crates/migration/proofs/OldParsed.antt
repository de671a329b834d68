-- Each file of bytes of version 1 holds records, or is refused.
use Rattle.std.proofs.Common.{◌≡◌, ◌⊎◌, inl, inr, ℕ, ◌≤◌, Bool, true, false, List, ◌++◌, take, drop, get_or, slice_set, refl, sym, ◌∙◌, ap, subst, arith, take-append-drop}
use Rattle.std.proofs.lemmas.Bool.{cases_eq, cases_lt}
use Rattle.terms_prelude.specs.Terms.{Record, Header}
use Rattle.journal.proofs.Headers.{header_eq, same_by, by_same}
use Rattle.journal.proofs.One.{one_header}
use Rattle.journal.proofs.Parsing.{bytes_behind, read_or_wrong}
use Rattle.journal.proofs.Telling.{has_header}
use Rattle.migration.specs.Words.{MigrateFault, NotOld, OtherHeader, BadRecord, CutShort, header_text, old_header_text, version_1, AreBytes, HasHeader, IsOldHeader, IsCutIn, IsBadIn, HasOldHeader, HoldsOld, RefusesOld}
use Rattle.migration.proofs.OldHeaders.{renewed, again}
use Rattle.migration.proofs.OldOpened.{held_from, wrong_from}
use Rattle.migration.proofs.OldRecords.{is_old_record}

-- a file that begins with a header begins with one of version 2, with its byte
renewed_file : (h : Header) (rest : List ℕ) → renewed (old_header_text h ++ rest) ≡ header_text h ++ rest
unfolding old_header_text header_text
renewed_file h rest = refl

file_again : (h : Header) (rest : List ℕ) → slice_set (header_text h ++ rest) 7 49 ≡ old_header_text h ++ rest
unfolding old_header_text header_text
file_again h rest = refl

version_byte : (h : Header) (rest : List ℕ) → get_or (old_header_text h ++ rest) 7 0 ≡ 49
unfolding old_header_text
version_byte h rest = refl

new_header : (h : Header) (file : List ℕ) → HasOldHeader h file → HasHeader h (renewed file)
new_header h file has = record {
  lawful = has.lawful.lawful;
  begins = (has.begins.0, ap renewed has.begins.1 ∙ renewed_file h has.begins.0);
}

old_header : (h : Header) (file : List ℕ) → get_or file 7 0 ≡ 49 → HasHeader h (renewed file) → h.size.n ≤ 32 → h.size.questions ≤ 256 → HasOldHeader h file
old_header h file version has members questions = record {
  lawful = record { lawful = has.lawful; members = members; questions = questions };
  begins = (
    has.begins.0,
    sym (again file 7 50 version) ∙ ap (λ (l : List ℕ). slice_set l 7 49) has.begins.1 ∙ file_again h has.begins.0,
  );
}

-- a file begins with a header
has_old_header : (file : List ℕ) → ((h : Header) × HasOldHeader h file) ⊎ ((h : Header) → HasOldHeader h file → ⊥)
has_old_header file = elim (cases_eq (get_or file 7 0) 49) [
  | inr other ↦ inr (λ h has. other (ap (λ (l : List ℕ). get_or l 7 0) has.begins.1 ∙ version_byte h has.begins.0))
  | inl version ↦ elim (has_header (renewed file)) [
    | inr none ↦ inr (λ h has. none h (new_header h file has))
    | inl new ↦ elim (cases_lt 32 new.0.size.n) [
      | inl more ↦ inr (λ h has.
          let same = ap (λ (k : Header). k.size.n) (one_header h new.0 (renewed file) (new_header h file has) new.1) in
          omega (arith, more, same, has.lawful.members))
      | inr members ↦ elim (cases_lt 256 new.0.size.questions) [
        | inl more ↦ inr (λ h has.
            let same = ap (λ (k : Header). k.size.questions) (one_header h new.0 (renewed file) (new_header h file has) new.1) in
            omega (arith, more, same, has.lawful.questions))
        | inr questions ↦ inl (new.0, old_header new.0 file version new.1 members questions)
      ]
    ]
  ]
]

-- it holds records, or is refused
abbrev HoldsOrNot : Header → List ℕ → Type 0
HoldsOrNot h file = ((records : List Record) × HoldsOld h records file) ⊎ ((fault : MigrateFault) × RefusesOld h fault file)

-- by what its header is
by_header : (h k : Header) (file : List ℕ) → IsOldHeader h → AreBytes file → HasOldHeader k file → (b : Bool) → header_eq k h ≡ b → HoldsOrNot h file
by_header h k file lawful are has true test =
    let begins : HasOldHeader h file = subst (λ (j : Header). HasOldHeader j file) (same_by k h test) has in
    elim (read_or_wrong version_1 is_old_record h (drop 24 file) lawful.lawful.size (bytes_behind (take 24 file) (drop 24 file) (subst (λ (l : List ℕ). AreBytes l) (sym (take-append-drop 24 file)) are))) [
      | inl held ↦ inl (held.1, held_from file (drop 24 file) h held.0 held.1 begins refl held.2)
      | inr (inl cut) ↦ inr (CutShort, wrong_from file (drop 24 file) h (IsCutIn version_1) begins refl cut)
      | inr (inr bad) ↦ inr (BadRecord, wrong_from file (drop 24 file) h (IsBadIn version_1 h) begins refl bad)
    ]
by_header h k file lawful are has false test =
    inr (OtherHeader, (k, has, λ same. cc (by_same k h same, test)))

pub holds_or_refused : (h : Header) (file : List ℕ) → IsOldHeader h → AreBytes file → ((records : List Record) × HoldsOld h records file) ⊎ ((fault : MigrateFault) × RefusesOld h fault file)
holds_or_refused h file lawful are = elim (has_old_header file) [
  | inl has ↦ by_header h has.0 file lawful are has.1 (header_eq has.0 h) refl
  | inr none ↦ inr (NotOld, none)
]
