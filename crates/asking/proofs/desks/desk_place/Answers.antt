use Rattle.std.proofs.Common.{◌≡◌, Option, Some, None}
use Rattle.settings.specs.declared.address.Address.{Address}
use Rattle.asking.proofs.Placing.{no_place}
use Rattle.asking.proofs.desks.desk_place.Goals as goal

pub returns-in-None-clause-none : goal.returns-in-None-clause-none
returns-in-None-clause-none c = λ none at is.
    no_place c.args.text.now at
    (λ address named. let no : ◌≡◌ {A = Option Address} None (Some address) = c.in-None.ensures.exact address named in cc)
    (c.path_in.ensures.none none) is
