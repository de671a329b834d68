use Rattle.std.proofs.Common.{◌==◌, not, rules, tests}
use Rattle.std.proofs.lemmas.Fn.{filter_same}
use Rattle.portal.specs.declared.book.Motion.{Motion}
use Rattle.portal.proofs.book.Book.end_motion.Goals as goal

pub returns-clause-stays : goal.returns-clause-stays
returns-clause-stays c = filter_same _ (λ (motion : Motion). not (motion.number == c.args.number)) _ (λ x b f' k. search (rules, tests)) _ _ c.retain.ensures.filtered
