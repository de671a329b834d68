use Rattle.std.proofs.Common.{rules}
use Rattle.std.proofs.lemmas.Nat.{be_bytes_8}
use Rattle.running.proofs.callers.number.Goals as goal

pub returns : goal.returns
returns c = be_bytes_8 c.args.bytes.now c.from_be_bytes.result (search rules) (λ i. search rules) (search rules)
