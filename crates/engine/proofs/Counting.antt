-- How many bytes lists have, and frames.
use Rattle.std.proofs.Common.{◌≡◌, ℕ, ◌+◌, ◌*◌, ◌≤◌, ◌==◌, true, List, [], ◌∷◌, length, refl, sym, ◌∙◌, ap, arith, length-append}
use Rattle.std.proofs.lemmas.Bool.{eqb-true}
use Rattle.terms_prelude.specs.Terms.{Statement, Record}
use Rattle.statement_codec.specs.Statements.{statement_bytes}
use Rattle.wire.specs.Texts.{frame_bytes, statements_bytes}
use Rattle.wire.specs.declared.message.Message.TheVariants as message
use Rattle.engine.specs.Texts.{record_bytes, records_bytes}
use Rattle.engine.specs.Frames.{message_of}
use Rattle.engine.proofs.Seven.{length-record, length-statement}

length-records : (rs : List Record) → length (records_bytes rs) ≡ 7 * length rs
length-records [] = refl
length-records (r ∷ rs) =
    omega (arith, length-append (record_bytes r) (records_bytes rs), length-record r, length-records rs)

length-statements : (all : List Statement) → length (statements_bytes all) ≡ 7 * length all
length-statements [] = refl
length-statements (s ∷ all) =
    omega (arith, length-append (statement_bytes s) (statements_bytes all), length-statement s, length-statements all)

-- lists of the same bytes have as many
pub records_count : (bytes : List ℕ) (rs qs : List Record) → bytes ≡ records_bytes rs → bytes ≡ records_bytes qs → length rs ≡ length qs
records_count bytes rs qs one other =
    omega (arith, length-records rs, length-records qs, ap (λ (l : List ℕ). length l) (sym one ∙ other))

pub statements_count : (bytes : List ℕ) (all more : List Statement) → bytes ≡ statements_bytes all → bytes ≡ statements_bytes more → length all ≡ length more
statements_count bytes all more one other =
    omega (arith, length-statements all, length-statements more, ap (λ (l : List ℕ). length l) (sym one ∙ other))

-- a frame of no more than 99 statements has its room
pub frame_fits : (all : List Statement) → 1 ≤ length all → length all ≤ 99 → length (frame_bytes (message_of all)) ≤ 697
frame_fits [] some few = absurd (omega (arith, some))
frame_fits (s ∷ []) some few = omega arith
frame_fits (s ∷ next ∷ more) some few =
    let all : List Statement = s ∷ next ∷ more in
    let long : length (frame_bytes (message.Statements all)) ≡ 4 + length (statements_bytes all) = omega arith in
    omega (arith, few, long, length-statements all)

-- none where it is so that there is none
pub none_left : (n : ℕ) → true ≡ (n == 0) → n ≡ 0
none_left n e = eqb-true n 0 (sym e)
