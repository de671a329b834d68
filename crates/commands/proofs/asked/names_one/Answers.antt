use Rattle.std.proofs.Common.{◌≡◌, Option, None, Some}
use Rattle.settings.specs.declared.address.Address.{Address}
use Rattle.commands.proofs.asked.names_one.Goals as goal

pub returns-in-None-clause-no : goal.returns-in-None-clause-no
returns-in-None-clause-no c = λ e address is.
    let none : ◌≡◌ {A = Option Address} None (Some address) = c.in-None.ensures.exact address is in cc
