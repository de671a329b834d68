use Rattle.std.proofs.Common.{rules, ◌≡◌, ◌∙◌, ap, sym}
use Rattle.chances.specs.Ends.{end_of}
use Rattle.chances.specs.Tables.{HasEnd}
use Rattle.chances.specs.declared.ends.End.{End}
use Rattle.chances.specs.declared.ends.End.TheVariants.{Decided, Open, TwoAnswers}
use Rattle.chances.proofs.Endings.{ended}
use Rattle.chances.proofs.game.play.Goals as goal

pub returns-in-TwoAnswers-clause-two : goal.returns-in-TwoAnswers-clause-two
returns-in-TwoAnswers-clause-two c = λ other is.
    let same : other ≡ c.args.seed = search (rules, is) in
    let ends : ◌≡◌ {A = End} (end_of c.in_ok-verdicts.field-0.items) TwoAnswers = sym (ap end_of c.deref.ensures.value) ∙ sym c.end_of.ensures ∙ c.in-TwoAnswers.is in
    let it = ended c.args.setting.now.size c.args.setting.now.liars c.args.seed TwoAnswers c.in_ok-table.table c.in_ok-verdicts.field-0.items c.in_ok-table.ensures.played c.in_ok-verdicts.ensures ends in
    (same, it)

pub returns-in-Open-clause-end : goal.returns-in-Open-clause-end
returns-in-Open-clause-end c =
    let ends : ◌≡◌ {A = End} (end_of c.in_ok-verdicts.field-0.items) Open = sym (ap end_of c.deref.ensures.value) ∙ sym c.end_of.ensures ∙ c.in-Open.is in
    let it : HasEnd c.args.setting.now.size c.args.setting.now.liars c.args.seed Open = ended c.args.setting.now.size c.args.setting.now.liars c.args.seed Open c.in_ok-table.table c.in_ok-verdicts.field-0.items c.in_ok-table.ensures.played c.in_ok-verdicts.ensures ends in
    search (rules, it)

pub returns-clause-end : goal.returns-clause-end
returns-clause-end c =
    let ends : ◌≡◌ {A = End} (end_of c.in_ok-verdicts.field-0.items) (Decided c.in-Decided.round) = sym (ap end_of c.deref.ensures.value) ∙ sym c.end_of.ensures ∙ c.in-Decided.is in
    let it : HasEnd c.args.setting.now.size c.args.setting.now.liars c.args.seed (Decided c.in-Decided.round) = ended c.args.setting.now.size c.args.setting.now.liars c.args.seed (Decided c.in-Decided.round) c.in_ok-table.table c.in_ok-verdicts.field-0.items c.in_ok-table.ensures.played c.in_ok-verdicts.ensures ends in
    search (rules, it)
