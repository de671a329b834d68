use Rattle.std.proofs.Common.{◌≡◌, option_map, subst}
use Rattle.toml.specs.Data.{get_member}
use Rattle.toml.specs.View.{view, table_view}
use Rattle.toml.proofs.Views.{table_get}
use Rattle.settings.proofs.Members.{found}
use Rattle.commands.proofs.asked.value_at.Goals as goal

pub returns : goal.returns
returns c =
    found c.get.result _
    (subst (λ k. option_map (λ x. view x.now) c.get.result ≡ get_member k (table_view c.args.table.now)) c.text.ensures
    (table_get c.get.result c.text.result.now c.args.table.now.entries c.get.ensures.value))
