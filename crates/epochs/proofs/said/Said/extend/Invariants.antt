use Rattle.std.proofs.Common.{◌≡◌, ◌++◌, drop, take}
use Rattle.epochs.specs.Lines.{said_bytes}
use Rattle.epochs.specs.declared.said.TheConstants.{MOST}
use Rattle.epochs.proofs.said.Said.extend.Given as goal

-- what is kept and what is left to put are all
abbrev pub invariant-loop-byte : goal.invariant-loop-byte
invariant-loop-byte l = take MOST (said_bytes l.self ++ drop l.byte-index l.bytes) ≡ take MOST (said_bytes l.fn.self ++ l.bytes)
