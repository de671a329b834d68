use Rattle.std.proofs.Common.{ap, ◌∙◌}
use Rattle.terms_prelude.specs.Terms.{Place}
use Rattle.hearing.proofs.Turns.{statement_heard, statement_has}
use Rattle.hearing.proofs.session.hear_one.Goals as goal

pub returns-clause-answers : goal.returns-clause-answers
returns-clause-answers c =
    statement_heard c.args.stream.now.size c.args.stream.now.from c.args.broadcasts.now.items c.args.statement.now
    c.index_mut.result.now c.hear.new.broadcasts c.args.text.now.items c.hear.new.text.items
    c.from-question.result c.requires.well
    (c.from-question.ensures ∙ (c.question.ensures ∙ ap (λ (p : Place). p.question) c.place.ensures))
    c.requires.has c.index_mut.ensures.value c.in_ok-hear.ensures.answers

pub returns-clause-has : goal.returns-clause-has
returns-clause-has c =
    statement_has c.args.stream.now.size c.args.stream.now.from c.args.broadcasts.now.items c.args.statement.now
    c.index_mut.result.now c.hear.new.broadcasts c.args.text.now.items c.hear.new.text.items
    c.from-question.result c.requires.well
    (c.from-question.ensures ∙ (c.question.ensures ∙ ap (λ (p : Place). p.question) c.place.ensures))
    c.requires.has c.index_mut.ensures.value c.in_ok-hear.ensures.size
