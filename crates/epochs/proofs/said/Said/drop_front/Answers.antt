use Rattle.std.proofs.Common.{◌≡◌, List, ℕ, length, refl, rules}
use Rattle.epochs.specs.Lines.{said_bytes}
use Rattle.epochs.specs.declared.said.TheConstants.{MOST}
use Rattle.epochs.proofs.Saying.{front_dropped}
use Rattle.epochs.proofs.said.Said.drop_front.Goals as goal

pub returns : goal.returns
returns c =
    let size : length c.args.self.now.bytes ≡ MOST = search rules in
    front_dropped MOST c.args.count c.args.self.now.length c.args.self.now.bytes (said_bytes c.nothing-rest.result) c.bytes.result.now _ c.min.result (said_bytes c.extend.new.self)
    c.args.self.now.within size c.nothing-rest.ensures c.bytes.ensures c.min.ensures refl c.extend.ensures
