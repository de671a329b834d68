use Rattle.std.proofs.Common.{ℕ, ◌≡◌, ◌<◌, ◌≤◌, ◌^◌, Some, None, Option, List, sym, ap, subst, ◌∙◌, refl, arith}
use Rattle.std.specs.Fmt.{decimal}
use Rattle.hex.specs.Hex.{encode_lower}
use Rattle.numerals.proofs.Cuts.{no_cut}
use Rattle.terms_prelude.specs.Terms.{Statement, Size, IsSize}
use Rattle.wire.specs.Texts.{frame_bytes}
use Rattle.wire.specs.declared.message.Message.TheVariants as message
use Rattle.transcripts.specs.Reading.{FitsPair}
use Rattle.transcripts.proofs.Spelled.{cut_is, number_below, few_members, frame_is_bytes}
use Rattle.transcripts.proofs.reading.pair_of.Goals as goal

pub returns-in_err-from-clause-exact : goal.returns-in_err-from-clause-exact
returns-in_err-from-clause-exact c = λ pair fits is. absurd (no_cut c.args.line.now (decimal pair.0) (encode_lower (frame_bytes (message.Statement pair.1))) c.in_err-from.ensures is)

pub returns-in_err-from-2-clause-exact : goal.returns-in_err-from-2-clause-exact
returns-in_err-from-2-clause-exact c = λ pair fits is.
    let small = few_members c.args.size c.recall.ensures pair.0 fits.0 in
    let parts = cut_is c.args.line.now c.in_ok-from.from.now c.in_ok-from.digits.now (encode_lower (frame_bytes (message.Statement pair.1))) pair.0 small.1 c.in_ok-from.ensures.0 c.in_ok-from.ensures.1 is in
    let there : ◌≡◌ {A = Option ℕ} None (Some pair.0) = c.in_err-from-2.ensures.exact pair.0 (number_below 8 c.in_ok-from.from.now pair.0 small.0 small.1 parts.0) in
    absurd (cc there)

pub returns-in_err-bytes_of-clause-exact : goal.returns-in_err-bytes_of-clause-exact
returns-in_err-bytes_of-clause-exact c = λ pair fits is.
    let small = few_members c.args.size c.recall.ensures pair.0 fits.0 in
    let parts = cut_is c.args.line.now c.in_ok-from.from.now c.in_ok-from.digits.now (encode_lower (frame_bytes (message.Statement pair.1))) pair.0 small.1 c.in_ok-from.ensures.0 c.in_ok-from.ensures.1 is in
    let frame = frame_is_bytes c.args.size c.recall.ensures pair.1 fits.1 in
    let there : ◌≡◌ {A = Option (List ℕ)} None (Some (frame_bytes (message.Statement pair.1))) = c.in_err-bytes_of.ensures (frame_bytes (message.Statement pair.1)) frame.0 frame.1 parts.1 in
    absurd (cc there)

pub returns-in_err-statement-clause-exact : goal.returns-in_err-statement-clause-exact
returns-in_err-statement-clause-exact c = λ pair fits is.
    let small = few_members c.args.size c.recall.ensures pair.0 fits.0 in
    let parts = cut_is c.args.line.now c.in_ok-from.from.now c.in_ok-from.digits.now (encode_lower (frame_bytes (message.Statement pair.1))) pair.0 small.1 c.in_ok-from.ensures.0 c.in_ok-from.ensures.1 is in
    let frame = frame_is_bytes c.args.size c.recall.ensures pair.1 fits.1 in
    let read : ◌≡◌ {A = Option (List ℕ)} (Some c.in_ok-bytes_of.field-0) (Some (frame_bytes (message.Statement pair.1))) = c.in_ok-bytes_of.ensures (frame_bytes (message.Statement pair.1)) frame.0 frame.1 parts.1 in
    let bytes : c.in_ok-bytes_of.field-0 ≡ frame_bytes (message.Statement pair.1) = cc in
    let there : ◌≡◌ {A = Option Statement} None (Some pair.1) = c.in_err-statement.ensures.exact pair.1 fits.1 bytes in
    absurd (cc there)

pub returns-clause-exact : goal.returns-clause-exact
returns-clause-exact c = λ pair fits is.
    let small = few_members c.args.size c.recall.ensures pair.0 fits.0 in
    let parts = cut_is c.args.line.now c.in_ok-from.from.now c.in_ok-from.digits.now (encode_lower (frame_bytes (message.Statement pair.1))) pair.0 small.1 c.in_ok-from.ensures.0 c.in_ok-from.ensures.1 is in
    let frame = frame_is_bytes c.args.size c.recall.ensures pair.1 fits.1 in
    let first : ◌≡◌ {A = Option ℕ} (Some c.in_ok-from-2.from) (Some pair.0) = c.in_ok-from-2.ensures.exact pair.0 (number_below 8 c.in_ok-from.from.now pair.0 small.0 small.1 parts.0) in
    let read : ◌≡◌ {A = Option (List ℕ)} (Some c.in_ok-bytes_of.field-0) (Some (frame_bytes (message.Statement pair.1))) = c.in_ok-bytes_of.ensures (frame_bytes (message.Statement pair.1)) frame.0 frame.1 parts.1 in
    let bytes : c.in_ok-bytes_of.field-0 ≡ frame_bytes (message.Statement pair.1) = cc in
    let last : ◌≡◌ {A = Option Statement} (Some c.in_ok-statement.statement) (Some pair.1) = c.in_ok-statement.ensures.exact pair.1 fits.1 bytes in
    let from : c.in_ok-from-2.from ≡ pair.0 = cc in
    let statement : c.in_ok-statement.statement ≡ pair.1 = cc in
    λ i. Some (from i, statement i)
