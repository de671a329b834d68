use Rattle.std.proofs.Common.{◌+◌, ◌++◌, ap, ◌∙◌, drop, List}
use Rattle.std.specs.List.{flat_map}
use Rattle.script.specs.declared.fair.Link.{Link}
use Rattle.script.specs.Fair.{links_from}
use Rattle.script.proofs.Decks.{links-next}
use Rattle.script.proofs.fair.add_links.Goals as goal

pub loop-from-preserved : goal.loop-from-preserved
loop-from-preserved c =
    let i = c.loop-from.from-index in
    let ms = c.args.members.now in
    ap (λ (deck : List Link). deck ++ flat_map (λ from. links_from from ms) (drop (i + 1) ms)) c.in_ok-add_links_from.ensures
    ∙ (links-next ms i c.loop-from.deck.items c.loop-from-test.true ∙ c.loop-from.invariant)
