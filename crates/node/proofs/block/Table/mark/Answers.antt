use Rattle.std.proofs.Common.{rules, ℕ, ◌≡◌, ◌%◌, ◌++◌, ◌∷◌, [], true, sym, subst}
use Rattle.std.proofs.Math.ListN.{set}
use Rattle.node.specs.Words.{AreMarkedIn}
use Rattle.node.proofs.Blocks.{marked}
use Rattle.node.proofs.block.Table.mark.Goals as goal

pub returns : goal.returns
returns c past were =
    let same : c.from.result ≡ c.question.result = search (rules) in
    subst (λ (k : ℕ). AreMarkedIn (set c.args.self.now.marks (k % 4096) true) (past ++ c.args.entry.now ∷ [])) (sym same)
    (marked c.args.self.now.marks c.question.result past c.args.entry.now (search (rules)) c.question.ensures were)
