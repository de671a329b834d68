use Rattle.std.proofs.Common.{rules, inr}
use Rattle.commands.specs.Owners.{IsHeadless}
use Rattle.troubles.proofs.Weakening.{says_else}
use Rattle.troubles.proofs.telling.other_failure.Goals as goal

pub returns-in-Ok-None-clause-told : goal.returns-in-Ok-None-clause-told
returns-in-Ok-None-clause-told c =
    let none : IsHeadless c.args.file.now = search (rules, c.in-Ok-None.ensures.none, c.in-Ok-None.field-0-is) in
    says_else c.bytes_failure.result.trouble _ _ _ _ (λ words. inr none) c.bytes_failure.ensures.told
