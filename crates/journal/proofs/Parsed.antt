-- Each file of bytes holds records, or is refused.
use Rattle.std.proofs.Common.{◌≡◌, ◌⊎◌, inl, inr, ℕ, ◌+◌, Bool, true, false, List, take, drop, refl, sym, subst, take-append-drop}
use Rattle.terms_prelude.specs.Terms.{Record, Header}
use Rattle.disk.specs.Model.{at_rest}
use Rattle.journal.specs.Words.{JournalFault, BadHeader, OtherHeader, BadRecord, CutShort, OldVersion, version_2, IsHeader, IsBad, IsCut, AreBytes, HasHeader, Holds, RefusesFile}
use Rattle.journal.proofs.Headers.{header_eq, same_by, by_same}
use Rattle.journal.proofs.Held.{held_holds}
use Rattle.journal.proofs.Opened.{held_from, wrong_from}
use Rattle.journal.proofs.Parsing.{bytes_behind, read_or_wrong}
use Rattle.journal.proofs.Telling.{is_record, is_old, has_header}

-- it holds records, or is refused
abbrev HoldsOrNot : Header → List ℕ → Type 0
HoldsOrNot h file = ((records : List Record) × Holds h records file) ⊎ ((fault : JournalFault) × RefusesFile h fault file)

-- by what its header is
by_header : (h k : Header) (file : List ℕ) → IsHeader h → AreBytes file → HasHeader k file → (b : Bool) → header_eq k h ≡ b → HoldsOrNot h file
by_header h k file lawful are has true test =
    let begins : HasHeader h file = subst (λ (j : Header). HasHeader j file) (same_by k h test) has in
    elim (read_or_wrong version_2 is_record h (drop 24 file) lawful.size (bytes_behind (take 24 file) (drop 24 file) (subst (λ (l : List ℕ). AreBytes l) (sym (take-append-drop 24 file)) are))) [
      | inl held ↦ inl (held.1, held_holds (at_rest file) h (24 + held.0) held.1 (held_from file (drop 24 file) h held.0 held.1 begins refl held.2))
      | inr (inl cut) ↦ inr (CutShort, wrong_from file (drop 24 file) h IsCut begins refl cut)
      | inr (inr bad) ↦ inr (BadRecord, wrong_from file (drop 24 file) h (IsBad h) begins refl bad)
    ]
by_header h k file lawful are has false test =
    inr (OtherHeader, (k, has, λ same. cc (by_same k h same, test)))

pub holds_or_refused : (h : Header) (file : List ℕ) → IsHeader h → AreBytes file → ((records : List Record) × Holds h records file) ⊎ ((fault : JournalFault) × RefusesFile h fault file)
holds_or_refused h file lawful are = elim (has_header file) [
  | inl has ↦ by_header h has.0 file lawful are has.1 (header_eq has.0 h) refl
  | inr none ↦ elim (is_old file) [
    | inl old ↦ inr (OldVersion, old)
    | inr not_old ↦ inr (BadHeader, (none, not_old))
  ]
]
