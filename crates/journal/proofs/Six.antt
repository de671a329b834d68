-- Records of version 2: six bytes each.
use Rattle.std.proofs.Common.{◌≡◌, ℕ, Bool, true, false, nat_eq, if◌then◌else◌, List, get_or, refl, sym, ◌∙◌, ap, arith}
use Rattle.terms_prelude.specs.Terms.{Kind, Initial, Echo, Ready, Record, Said, Decided, Header, IsSize, new_place, new_statement}
use Rattle.statement_codec.specs.Statements.{kind_byte, kind_from, value_from}
use Rattle.statement_codec.proofs.Statements.{kind_again, value_again}
use Rattle.journal.specs.Words.{bit_byte, record_bytes, version_2, IsWellFormedFor}
use Rattle.journal.proofs.Records.{asked, step_in, value_in, said_back, decided_back}
use Rattle.journal.proofs.Spelled.{IsSpelling}
use Rattle.journal.proofs.Texts.{length-record_text}

-- the bit of a byte
abbrev pub bit_from : ℕ → Bool
bit_from b = nat_eq b 1

bit_again : (b : Bool) → bit_from (bit_byte b) ≡ b
bit_again true = refl
bit_again false = refl

-- the record that six bytes are, if they are one
abbrev pub said_at : List ℕ → Record
said_at b = Said (new_statement (kind_from (get_or b 0 0)) (new_place (asked b) (get_or b 3 0) (get_or b 4 0) (step_in b)) (value_from (value_in b)))

abbrev pub decided_at : List ℕ → Record
decided_at b = Decided (asked b) (get_or b 4 0) (bit_from (get_or b 5 0))

abbrev pub record_at : List ℕ → Record
record_at b = if nat_eq (get_or b 0 0) 4 then decided_at b else said_at b

-- which one, by its kind
at_said : (b : List ℕ) (k : Kind) → get_or b 0 0 ≡ kind_byte k → record_at b ≡ said_at b
at_said b Initial e = ap (λ (n : ℕ). if nat_eq n 4 then decided_at b else said_at b) e
at_said b Echo e = ap (λ (n : ℕ). if nat_eq n 4 then decided_at b else said_at b) e
at_said b Ready e = ap (λ (n : ℕ). if nat_eq n 4 then decided_at b else said_at b) e

-- the record with these bytes is the one that is read off them
pub record_back : (b : List ℕ) (h : Header) (r : Record) → IsSize h.size → IsWellFormedFor h r → b ≡ record_bytes r → record_at b ≡ r
record_back b h (Said s) size is same =
    let has = said_back b h s size is same in
    let kind : kind_from (get_or b 0 0) ≡ s.kind = ap (λ (n : ℕ). kind_from n) (sym has.kind_is) ∙ kind_again s.kind in
    let value : value_from (value_in b) ≡ s.value = ap (λ (n : ℕ). value_from n) (sym has.value_is) ∙ value_again s.value in
    at_said b s.kind (sym has.kind_is) ∙ (λ i. Said (new_statement (kind i) (sym has.place_is i) (value i)))
record_back b h (Decided question round bit) size is same =
    let has = decided_back b h question round bit size is same in
    let value : bit_from (get_or b 5 0) ≡ bit = ap (λ (n : ℕ). bit_from n) has.bit_is ∙ bit_again bit in
    ap (λ (n : ℕ). if nat_eq n 4 then decided_at b else said_at b) has.kind_is ∙ (λ i. Decided (has.question_is i) (has.round_is i) (value i))

pub same_record : (h : Header) (r q : Record) → IsSize h.size → IsWellFormedFor h r → IsWellFormedFor h q → record_bytes r ≡ record_bytes q → r ≡ q
same_record h r q size well well' same =
    sym (record_back (record_bytes r) h r size well refl) ∙ record_back (record_bytes r) h q size well' same

pub six : IsSpelling version_2
six = record {
  fixed = record { some = omega arith; few = omega arith; long = length-record_text };
  one = same_record;
}
