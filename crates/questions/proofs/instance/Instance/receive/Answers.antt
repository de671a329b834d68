use Rattle.std.proofs.Common.{◌≡◌, ◌∙◌, refl, sym, ap, subst, Option, Some, None}
use Rattle.terms_prelude.specs.Terms.{Place, Value, Accepted, hear}
use Rattle.rbc.specs.Answers.{heard_as, heard_of, IsNewlyAccepted}
use Rattle.rbc.specs.Outcomes.{Brings}
use Rattle.rbc.specs.declared.Heard.TheVariants.{News}
use Rattle.questions.proofs.Taking.{has_heard, has_heard_nothing, if_news}
use Rattle.questions.proofs.instance.Instance.receive.Goals as goal

pub returns-in_ok-accept-in-News-clause-has : goal.returns-in_ok-accept-in-News-clause-has
returns-in_ok-accept-in-News-clause-has c = λ past has.
    let asked : c.args.s.now.place.question ≡ past.question = c.requires.question ∙ has.own.question in
    let now = c.in_ok-known.ensures.ok past has.broadcasts asked in
    let news : heard_as past c.args.from c.args.s.now ≡ News =
    sym (c.in_ok-known.ensures.answer past has.broadcasts asked) ∙ ap heard_of c.in-News.is in
    let brings : Brings c.args.self.now.broadcasts c.args.from c.args.s.now c.in-News.brought =
    if_news c.in_ok-known.known c.in-News.brought _ c.in-News.is c.in_ok-known.ensures.brings in
    let newly : IsNewlyAccepted past c.args.from c.args.s.now (Some c.in-Some.value) =
    subst (λ (o : Option Value). IsNewlyAccepted past c.args.from c.args.s.now o) c.in-Some.is
    (brings.accepted past has.broadcasts asked) in
    has_heard c.args.self.now _ past c.args.from c.args.s.now has news refl refl refl now c.place.result c.place.ensures (Some c.in-Some.value)
    (subst (λ (p : Place). Accepted past.size (hear past.heard (c.args.from, c.args.s.now)) p c.in-Some.value) (sym c.place.ensures) newly.0)
    c.in_ok-accept-in-News.ensures.ok c.in_ok-accept-in-News.ensures.rest

pub returns-in_default-accepted-clause-has : goal.returns-in_default-accepted-clause-has
returns-in_default-accepted-clause-has c = λ past has.
    let asked : c.args.s.now.place.question ≡ past.question = c.requires.question ∙ has.own.question in
    let now = c.in_ok-known.ensures.ok past has.broadcasts asked in
    let news : heard_as past c.args.from c.args.s.now ≡ News =
    sym (c.in_ok-known.ensures.answer past has.broadcasts asked) ∙ ap heard_of c.in-News.is in
    let brings : Brings c.args.self.now.broadcasts c.args.from c.args.s.now c.in-News.brought =
    if_news c.in_ok-known.known c.in-News.brought _ c.in-News.is c.in_ok-known.ensures.brings in
    let newly : IsNewlyAccepted past c.args.from c.args.s.now None =
    subst (λ (o : Option Value). IsNewlyAccepted past c.args.from c.args.s.now o) c.in_default-accepted.is
    (brings.accepted past has.broadcasts asked) in
    has_heard_nothing c.args.self.now _ past c.args.from c.args.s.now has news refl refl refl now refl asked newly
