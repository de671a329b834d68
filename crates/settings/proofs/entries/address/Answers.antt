use Rattle.std.proofs.Common.{◌≡◌, rules, Some}
use Rattle.toml.specs.Data.{get_member, string}
use Rattle.toml.specs.View.{table_view}
use Rattle.settings.specs.Keys.{key_text}
use Rattle.settings.proofs.Members.{no_address}
use Rattle.settings.proofs.entries.address.Goals as goal

pub returns-clause-fault : goal.returns-clause-fault
returns-clause-fault c =
    let chained = c.and_then.ensures in
    let had = c.value_at.ensures in
    let text = c.in_ok-text.ensures in
    let there : get_member (key_text c.args.key) (table_view c.args.table.now) ≡ Some (string c.in_ok-text.text.now) = search (rules, chained, had, text) in
    no_address (table_view c.args.table.now) c.args.key c.in_ok-text.text.now c.parse.result c.ok_or-2.result there c.parse.ensures.exact c.ok_or-2.ensures.value
