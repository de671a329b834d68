use Rattle.std.proofs.Common.{rules, ◌<◌, ◌≤◌}
use Rattle.std.proofs.lemmas.Result.{on_ok_weaker}
use Rattle.chances.specs.Tables.{correct_of, table_size}
use Rattle.chances.proofs.Moves.{lies_follow}
use Rattle.chances.proofs.table.Table.lie_to_all.Goals as goal

pub returns-clause-follows : goal.returns-clause-follows
unfolding table_size
returns-clause-follows c =
    let liars : correct_of c.args.self.now ≤ c.args.liar = search rules in
    let there : c.args.liar < (table_size c.args.self.now).n = search rules in
    on_ok_weaker c.put_lie.result (λ lies. lies_follow c.args.liar c.args.statement.now c.args.self.now c.put_lie.new.self liars (lies there)) c.put_lie.ensures.lies
