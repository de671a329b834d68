use Rattle.std.proofs.Common.{◌<◌, ◌≤◌, rules}
use Rattle.epochs.proofs.Saying.{names_slot, rest_behind}
use Rattle.epochs.proofs.turning.slot_line.Goals as goal

pub returns-clause-some : goal.returns-clause-some
returns-clause-some c =
    let some : 0 < c.digits_of-count.result = search rules in
    let few : c.digits_of-count.result ≤ 20 = search rules in
    names_slot c.args.line.now c.in_ok-verb.text.now c.in_ok-verb.verb c.digits_of-count.result c.number.result _ c.in_ok-verb.ensures.some
    c.digits_of-count.ensures.all some few (rest_behind c.in_ok-verb.text.now c.digits_of-count.result) c.number.ensures.some c.number.ensures.exact
