use Rattle.std.proofs.Common.{sym, ◌∙◌, ap, length}
use Rattle.node.proofs.Appending.{appends}
use Rattle.node.proofs.account.Witness.append.Goals as goal

pub compare_exchange-found-requires : goal.compare_exchange-found-requires
compare_exchange-found-requires g c =
    let seen = c.again-seen.ensures in
    let offer = c.plain-offer.ensures in
    let pen = c.no_pen-pen.ensures in
    let book = ap (λ s. s.book) seen ∙ c.self.invariant.1 ∙ sym (ap (λ w. w.book) c.requires) in (
      ap (λ w. w.tracked) c.requires,
      book,
      pen.0 ∙ book,
      offer.0,
      rw (ap (λ w. w.key) c.requires, pen.1, offer.1, offer.3)
          (appends c.again-seen.result.log _ _ c.self.inside.groups (ap (λ s. length s.log) seen ∙ sym c.self.invariant.0)),
    )
