use Rattle.std.proofs.Common.{◌≡◌, length, rules}
use Rattle.epochs.specs.declared.said.TheConstants.{MOST}
use Rattle.epochs.proofs.Saying.{full, pushed}
use Rattle.epochs.proofs.said.Said.push.Goals as goal

pub returns-then-self-lt-MOST : goal.returns-then-self-lt-MOST
returns-then-self-lt-MOST c =
    let size : length c.args.self.now.bytes ≡ MOST = search rules in
    pushed MOST c.args.self.now.length c.args.self.now.bytes c.args.byte c.if-self-lt-MOST.true size

pub returns-else-self-lt-MOST : goal.returns-else-self-lt-MOST
returns-else-self-lt-MOST c =
    let size : length c.args.self.now.bytes ≡ MOST = search rules in
    full MOST c.args.self.now.length c.args.self.now.bytes c.args.byte c.if-self-lt-MOST.false c.args.self.now.within size
