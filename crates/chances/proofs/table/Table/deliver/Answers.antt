use Rattle.std.proofs.Common.{rules, ◌<◌}
use Rattle.chances.specs.Tables.{Takes, correct_of}
use Rattle.chances.proofs.Moves.{delivery_follows, heard_delivers}
use Rattle.chances.proofs.table.Table.deliver.Goals as goal

pub returns-in_ok-hear-in-Some-clause-came : goal.returns-in_ok-hear-in-Some-clause-came
returns-in_ok-hear-in-Some-clause-came c = λ came.
    let takes : Takes c.args.from c.args.to c.args.place c.in-Some.statement c.args.self.now c.take.new.self = search (rules, c.in-Some.ensures.some) in
    let there : c.args.to < correct_of c.args.self.now = search (rules, c.in-Some.ensures.there) in
    heard_delivers c.args.from c.args.to c.args.place c.in-Some.statement c.args.self.now c.take.new.self c.hear.new.self takes there c.in_ok-hear-in-Some.ensures.told

pub returns-in_ok-hear-in-Some-clause-follows : goal.returns-in_ok-hear-in-Some-clause-follows
returns-in_ok-hear-in-Some-clause-follows c =
    let takes : Takes c.args.from c.args.to c.args.place c.in-Some.statement c.args.self.now c.take.new.self = search (rules, c.in-Some.ensures.some) in
    let there : c.args.to < correct_of c.args.self.now = search (rules, c.in-Some.ensures.there) in
    let delivers = heard_delivers c.args.from c.args.to c.args.place c.in-Some.statement c.args.self.now c.take.new.self c.hear.new.self takes there c.in_ok-hear-in-Some.ensures.told in
    delivery_follows c.args.from c.args.to c.args.place c.args.self.now c.hear.new.self delivers
