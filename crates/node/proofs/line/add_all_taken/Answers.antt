use Rattle.std.proofs.Common.{rules, ◌≡◌, length, min, sym, ◌∙◌}
use Rattle.std.proofs.lemmas.Slice.Zip.{zip_end}
use Rattle.node.proofs.Grouping.{none_left}
use Rattle.node.proofs.line.add_all_taken.Goals as goal

pub returns : goal.returns
returns c =
    let turns : length c.loop-from.yielded ≡ min (length c.args.group.now) (length c.args.answers.now) =
    zip_end c.args.group.now c.args.answers.now c.loop-from.yielded c.into_iter-from-iterator.result c.loop-from.from-iterator c.next.new.self c.next.result (search rules) (search rules) c.loop-from.yielded_by c.in-None.is c.next.ensures.steps in
    sym (none_left c.loop-from.history.entries c.args.group.now c.args.answers.now (length c.loop-from.yielded) turns) ∙ c.loop-from.invariant.entries
