use Rattle.std.proofs.Common.{rules, ◌≡◌, ◌<◌, ℕ, ◌+◌, ◌-◌, ◌^◌, List, [], ◌∷◌, ◌++◌, Some, Ok, Option, take, get_or, false, refl, sym, ap, ◌∙◌, subst, append-nil}
use Rattle.std.specs.Option.{option_map}
use Rattle.std.specs.Fmt.{styled_digits_output, padded_integral, format_spec, DisplaysOnOk}
use Rattle.std.proofs.Output.{has_written_append, has_written_of_eq}
use Rattle.std.proofs.lemmas.Fmt.{hex_byte}
use Rattle.std.proofs.lemmas.List.{take_more}
use Rattle.std.proofs.lemmas.List.Concat.{flat_map-append}
use Rattle.sim.specs.Texts.{hex_text, byte_text}
use Rattle.sim.proofs.events.DigitsDisplay.fmt.Goals as goal

pub loop-byte-preserved : goal.loop-byte-preserved
loop-byte-preserved g c plain =
    let bytes : List ℕ = c.args.self.now.0.now in
    let i = c.loop-byte.byte-index in
    let byte : ℕ = get_or bytes i 0 in
    let small : byte < 256 = search rules in
    let out : styled_digits_output c.in_radix.result c.laid_out.result ≡ Some (byte_text byte) =
    ap (λ s. styled_digits_output c.in_radix.result s) c.laid_out.ensures
    ∙ ap (λ (o : Option (List ℕ)). option_map (padded_integral (format_spec 32 0 4 2 (2 ^ 64 - 1)) false []) o) c.in_radix.ensures
    ∙ ap (λ (t : List ℕ). Some t) (hex_byte false byte small) in
    let wrote = subst (λ (o : Option (List ℕ)). DisplaysOnOk g.W.Write.write_str_gives c.loop-byte.f (Ok c.in_ok-write.field-0) o c.write.new.self) out c.in_ok-write.ensures.writes in
    let before = c.loop-byte.invariant plain in
    let more : hex_text (take i bytes) ++ byte_text byte ≡ hex_text (take (i + 1) bytes) =
    sym (ap hex_text (take_more bytes i 0 c.loop-byte-test.true) ∙ flat_map-append byte_text (take i bytes) (byte ∷ [])
    ∙ ap (λ (t : List ℕ). hex_text (take i bytes) ++ t) (append-nil (byte_text byte))) in
    has_written_of_eq g.W.Write.write_str_gives c.args.f.now (hex_text (take i bytes) ++ byte_text byte) (hex_text (take (i + 1) bytes)) c.write.new.self more
    (has_written_append g.W.Write.write_str_gives c.args.f.now (hex_text (take i bytes)) c.loop-byte.f (byte_text byte) c.write.new.self before (wrote before.plain refl))
