use Rattle.std.proofs.Common.{◌≤◌, ◌∙◌, [], ◌∷◌, ap, length, rules, sym}
use Rattle.json.specs.Json.{number}
use Rattle.json.specs.Value.{value_view}
use Rattle.gateway.specs.Motions.{bit_text}
use Rattle.gateway.proofs.Bodies.{isnt_alone}
use Rattle.gateway.proofs.motions.bit_of.Goals as goal

pub returns-in_default-as_slice-2-clause-none : goal.returns-in_default-as_slice-2-clause-none
returns-in_default-as_slice-2-clause-none c = λ none bit has.
    let two : 2 ≤ length c.in-Object.members.items = search rules in
    isnt_alone c.in-Object.members (98 ∷ 105 ∷ 116 ∷ []) (number (bit_text bit)) two (sym (ap value_view c.in-Object.is) ∙ has)
