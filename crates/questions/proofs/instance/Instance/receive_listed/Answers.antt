use Rattle.std.proofs.Common.{◌≡◌, ap, arith}
use Rattle.terms_prelude.specs.Terms.{Place}
use Rattle.questions.proofs.Listing.{has_here, has_elsewhere}
use Rattle.questions.proofs.instance.Instance.receive_listed.Goals as goal

pub returns-in_ok-receive-clause-has : goal.returns-in_ok-receive-clause-has
returns-in_ok-receive-clause-has c = λ past has.
    let place = ap (λ (p : Place). p.question) c.place.ensures in
    let asked : c.args.s.now.place.question ≡ past.question =
    omega (arith, c.if-question-self.true, c.question.ensures, place, has.own.question) in
    has_here c.receive.new.self past c.args.from c.args.s.now asked (c.in_ok-receive.ensures.has past has)

pub returns-else-question-self-clause-has : goal.returns-else-question-self-clause-has
returns-else-question-self-clause-has c = λ past has.
    let place = ap (λ (p : Place). p.question) c.place.ensures in
    has_elsewhere c.args.self.now past c.args.from c.args.s.now
    (λ asked. c.if-question-self.false (omega (arith, asked, c.question.ensures, place, has.own.question))) has
