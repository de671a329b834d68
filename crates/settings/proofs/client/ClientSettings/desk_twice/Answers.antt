use Rattle.std.proofs.Common.{sym, subst, Option}
use Rattle.toml.specs.Data.{Members}
use Rattle.settings.specs.Clients.{ListsDesks}
use Rattle.settings.proofs.client.ClientSettings.desk_twice.Goals as goal

pub returns-in-Ok-clause-unlisted : goal.returns-in-Ok-clause-unlisted
returns-in-Ok-clause-unlisted c = λ none.
    c.twice_in.ensures.unlisted (λ desks has. none desks (subst (λ (document : Option Members). ListsDesks document desks) (sym c.in-Ok.ensures.ok) has))
