use Rattle.std.proofs.Common.{◌≡◌, ◌+◌, ◌*◌, List, rules, sym, subst}
use Rattle.rand_chacha.specs.ChaCha.{ChaCha}
use Rattle.running.specs.Streams.{AreOfLife, streams}
use Rattle.running.proofs.Lives.{streams_of_life}
use Rattle.running.proofs.tossers.tossers_from.Goals as goal

pub returns-clause-life : goal.returns-clause-life
returns-clause-life c = λ few.
    let is : c.loop-at.tossers.items ≡ streams c.args.seed (c.args.records * 256 + c.args.first) c.args.count = search (rules, c.loop-at.invariant few) in
    subst (λ (l : List ChaCha). AreOfLife c.args.seed c.args.records l) (sym is) (streams_of_life c.args.seed c.args.records c.args.first c.args.count c.requires)
