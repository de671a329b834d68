-- A file of version 1 holds one list of records at most, by one header.
use Rattle.std.proofs.Common.{◌≡◌, ℕ, List, ◌∷◌, ◌++◌, sym, ◌∙◌, refl, subst, append_assoc}
use Rattle.terms_prelude.specs.Terms.{Record, Header}
use Rattle.journal.proofs.Endings.{one_text}
use Rattle.journal.proofs.Texts.{same_front}
use Rattle.migration.specs.Words.{old_header_text, batches_in, version_1, HasOldHeader, HoldsOld}
use Rattle.migration.proofs.OldHeaders.{same_header}
use Rattle.migration.proofs.OldRecords.{seven}
use Rattle.migration.proofs.OldTexts.{length-header_text}

-- one header in front
pub one_header : (h k : Header) (file : List ℕ) → HasOldHeader h file → HasOldHeader k file → h ≡ k
one_header h k file has has' =
    same_header h k has.lawful has'.lawful (same_front (old_header_text h) (old_header_text k) has.begins.0 has'.begins.0 (length-header_text h ∙ sym (length-header_text k)) (sym has.begins.1 ∙ has'.begins.1)).0

-- what stands behind it
pub behind_header : (h : Header) (x y : List ℕ) → old_header_text h ++ x ≡ old_header_text h ++ y → x ≡ y
behind_header h x y same = (same_front (old_header_text h) (old_header_text h) x y refl same).1

pub header_held : (h : Header) (records : List Record) (file : List ℕ) → HoldsOld h records file → HasOldHeader h file
header_held h records file holds = record {
  lawful = holds.lawful;
  begins = (batches_in version_1 holds.batches ++ 0 ∷ holds.rest, holds.is ∙ append_assoc (old_header_text h) (batches_in version_1 holds.batches) (0 ∷ holds.rest));
}

one_list : (h : Header) (records others : List Record) (file : List ℕ) → HoldsOld h records file → HoldsOld h others file → records ≡ others
one_list h records others file holds holds' =
    holds.records_are
    ∙ one_text version_1 seven h holds.batches holds'.batches holds.rest holds'.rest holds.lawful.lawful.size holds.good holds'.good
    (behind_header h (batches_in version_1 holds.batches ++ 0 ∷ holds.rest) (batches_in version_1 holds'.batches ++ 0 ∷ holds'.rest)
    (sym (append_assoc (old_header_text h) (batches_in version_1 holds.batches) (0 ∷ holds.rest)) ∙ sym holds.is ∙ holds'.is ∙ append_assoc (old_header_text h) (batches_in version_1 holds'.batches) (0 ∷ holds'.rest)))
    ∙ sym holds'.records_are

pub holds_one : (h k : Header) (records others : List Record) (file : List ℕ) → HoldsOld h records file → HoldsOld k others file → (h ≡ k) × (records ≡ others)
holds_one h k records others file holds holds' =
    let same = one_header h k file (header_held h records file holds) (header_held k others file holds') in
    (same, one_list h records others file holds (subst (λ (j : Header). HoldsOld j others file) (sym same) holds'))
