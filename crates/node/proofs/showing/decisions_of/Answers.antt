use Rattle.std.proofs.Common.{◌∙◌, sym}
use Rattle.node.proofs.Telling.{decisions_of_book}
use Rattle.node.proofs.showing.decisions_of.Goals as goal

pub returns : goal.returns
returns g c =
    decisions_of_book g.J.Naming.header g.J.Naming.header.size.questions c.args.book.now c.decisions.result.now
    (record { header_is = sym c.header-named.ensures.member ∙ c.header-named.ensures.hub; replayed = c.records-replayed.ensures.replay; tied = c.records-replayed.ensures.account })
    c.decisions.ensures
