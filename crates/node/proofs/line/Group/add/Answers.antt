use Rattle.std.proofs.Common.{rules, ◌≡◌, ◌++◌, ◌∷◌, [], ◌≤◌, length, subst, sym, List, ℕ}
use Rattle.terms_prelude.specs.Terms.{Statement}
use Rattle.rounds.specs.declared.tosses.Toss.{Toss}
use Rattle.node.specs.Parts.{AreParts}
use Rattle.node.specs.declared.line.Part.{Part}
use Rattle.node.proofs.Shares.{one_part_more}
use Rattle.node.proofs.line.Group.add.Goals as goal

pub invariant_of-self-2 : goal.invariant_of-self-2
invariant_of-self-2 c =
    let part : Part = record { at = c.args.at; events = c.args.events } in
    let few : length c.extend_from_slice.new.self.items ≤ 256 = search rules in
    let parts : c.push_reserved.new.self.items ≡ c.self.inside.parts.items ++ part ∷ [] = search rules in
    let whole : c.extend_from_slice.new.self.items ≡ c.self.inside.events.items ++ c.args.events.items = search rules in (
      few,
      subst (λ (l : List (ℕ × Statement × Toss)). AreParts c.push_reserved.new.self.items l) (sym whole)
          (subst (λ (l : List Part). AreParts l (c.self.inside.events.items ++ c.args.events.items)) (sym parts)
          (one_part_more c.self.inside.parts.items part c.self.inside.events.items c.self.invariant.1)),
    )
