use Rattle.std.proofs.Common.{rules, ◌≡◌, inr, sym, subst}
use Rattle.commands.specs.Owners.{IsNoJournal}
use Rattle.journal.specs.declared.fault.JournalFault.TheVariants.{NotEmpty}
use Rattle.troubles.specs.declared.trouble.Whereabouts.{Whereabouts}
use Rattle.troubles.specs.Tellings.{IsJournalPlace}
use Rattle.troubles.proofs.Weakening.{tells_less}
use Rattle.troubles.proofs.telling.owner_failure.Goals as goal

pub returns-in-Ok-None-clause-told : goal.returns-in-Ok-None-clause-told
returns-in-Ok-None-clause-told c =
    let file = c.args.file.now in
    let none : IsNoJournal file = search (rules, c.in-Ok-None.ensures.none, c.in-Ok-None.field-0-is) in
    tells_less c.long_failure.result.trouble _ _ _ _ _
    (λ at is. subst (λ (w : Whereabouts). IsJournalPlace NotEmpty file w) (sym is) tt)
    (λ words is. inr (none, is)) c.long_failure.ensures.told
