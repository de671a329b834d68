-- How many bytes headers and records of version 1 have.
use Rattle.std.proofs.Common.{◌≡◌, length, refl}
use Rattle.terms_prelude.specs.Terms.{Record, Said, Decided, Header}
use Rattle.migration.specs.Words.{old_record_bytes, old_header_text}

pub length-header_text : (h : Header) → length (old_header_text h) ≡ 24
unfolding old_header_text
length-header_text h = refl

pub length-record_text : (r : Record) → length (old_record_bytes r) ≡ 7
unfolding old_record_bytes
length-record_text (Said s) = refl
length-record_text (Decided question round bit) = refl
