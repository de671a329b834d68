use Rattle.std.proofs.Common.{rules, ◌≡◌, ◌<◌, ℕ, ◌-◌, ◌^◌, List, [], Some, Option, false, ap, ◌∙◌}
use Rattle.std.specs.Option.{option_map}
use Rattle.std.specs.Fmt.{styled_digits_output, padded_integral, format_spec}
use Rattle.std.proofs.lemmas.Fmt.{hex_byte}
use Rattle.sim.specs.Texts.{byte_text}
use Rattle.report.proofs.chart.pick_text.Goals as goal

pub returns-in-Fill : goal.returns-in-Fill
returns-in-Fill c =
    let byte : ℕ = c.in-Fill.byte in
    let small : byte < 256 = search rules in
    let out : styled_digits_output c.in_radix.result c.laid_out.result ≡ Some (byte_text byte) =
    ap (λ s. styled_digits_output c.in_radix.result s) c.laid_out.ensures
    ∙ ap (λ (o : Option (List ℕ)). option_map (padded_integral (format_spec 32 0 4 2 (2 ^ 64 - 1)) false []) o) c.in_radix.ensures
    ∙ ap (λ (t : List ℕ). Some t) (hex_byte false byte small) in
    rw c.in-Fill.is (search (rules, out, c.format.ensures.ok))
