-- A file holds one list of records at most, by one header.
use Rattle.std.proofs.Common.{◌≡◌, ℕ, List, ◌∷◌, ◌++◌, sym, ◌∙◌, refl, subst, append_assoc}
use Rattle.terms_prelude.specs.Terms.{Record, Header}
use Rattle.journal.specs.Words.{header_text, batches_bytes, version_2, HasHeader, Holds}
use Rattle.journal.proofs.Endings.{one_text}
use Rattle.journal.proofs.Headers.{same_header}
use Rattle.journal.proofs.Six.{six}
use Rattle.journal.proofs.Texts.{length-header_text, same_front}

-- one header in front
pub one_header : (h k : Header) (file : List ℕ) → HasHeader h file → HasHeader k file → h ≡ k
one_header h k file has has' =
    same_header h k has.lawful has'.lawful (same_front (header_text h) (header_text k) has.begins.0 has'.begins.0 (length-header_text h ∙ sym (length-header_text k)) (sym has.begins.1 ∙ has'.begins.1)).0

-- what stands behind it
pub behind_header : (h : Header) (x y : List ℕ) → header_text h ++ x ≡ header_text h ++ y → x ≡ y
behind_header h x y same = (same_front (header_text h) (header_text h) x y refl same).1

pub header_held : (h : Header) (records : List Record) (file : List ℕ) → Holds h records file → HasHeader h file
header_held h records file holds = record {
  lawful = holds.lawful;
  begins = (batches_bytes holds.batches ++ 0 ∷ holds.rest, holds.is ∙ append_assoc (header_text h) (batches_bytes holds.batches) (0 ∷ holds.rest));
}

one_list : (h : Header) (records others : List Record) (file : List ℕ) → Holds h records file → Holds h others file → records ≡ others
one_list h records others file holds holds' =
    holds.records_are
    ∙ one_text version_2 six h holds.batches holds'.batches holds.rest holds'.rest holds.lawful.size holds.good holds'.good
    (behind_header h (batches_bytes holds.batches ++ 0 ∷ holds.rest) (batches_bytes holds'.batches ++ 0 ∷ holds'.rest)
    (sym (append_assoc (header_text h) (batches_bytes holds.batches) (0 ∷ holds.rest)) ∙ sym holds.is ∙ holds'.is ∙ append_assoc (header_text h) (batches_bytes holds'.batches) (0 ∷ holds'.rest)))
    ∙ sym holds'.records_are

pub holds_one : (h k : Header) (records others : List Record) (file : List ℕ) → Holds h records file → Holds k others file → (h ≡ k) × (records ≡ others)
holds_one h k records others file holds holds' =
    let same = one_header h k file (header_held h records file holds) (header_held k others file holds') in
    (same, one_list h records others file holds (subst (λ (j : Header). Holds j others file) (sym same) holds'))
