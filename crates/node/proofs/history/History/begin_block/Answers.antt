use Rattle.std.proofs.Common.{rules, sym, ap, ◌∙◌, ◌≡◌, ◌<◌, ◌+◌, ◌^◌, ◌++◌, [], ◌∷◌, length}
use Rattle.node.specs.Histories.{HistoryView, joined}
use Rattle.node.proofs.Blocks.{begun, joined-snoc}
use Rattle.node.proofs.history.History.begin_block.Goals as goal

pub invariant_of-self-in-Ok-of : goal.invariant_of-self-in-Ok-of
invariant_of-self-in-Ok-of c =
    let block : c.in-Ok-of.block ≡ c.self.inside.last.items = c.in-Ok-of.ensures ∙ ap (λ v. v.items) c.replace.ensures.value in
    let more : c.push_reserved.new.self.items ≡ c.self.inside.full.items ++ c.self.inside.last.items ∷ [] = search (rules, block) in
    let whole : joined c.self.inside.full.items ++ c.self.inside.last.items ≡ c.args.self.now.entries = ap (λ (v : HistoryView). v.entries) c.self.view_is in
    let count : c.len-behind.result ≡ length c.args.self.now.entries = search (rules) in
    let fits : c.len-behind.result + c.args.k < 2 ^ 64 = search (rules) in
    record {
      count = count ∙ ap length (sym whole ∙ sym (joined-snoc c.self.inside.full.items c.self.inside.last.items) ∙ ap joined (sym more));
      fits = search (rules, fits);
    }

pub returns-in-Ok-of-clause-entries : goal.returns-in-Ok-of-clause-entries
returns-in-Ok-of-clause-entries c =
    let block : c.in-Ok-of.block ≡ c.self.inside.last.items = c.in-Ok-of.ensures ∙ ap (λ v. v.items) c.replace.ensures.value in
    let more : c.push_reserved.new.self.items ≡ c.self.inside.full.items ++ c.self.inside.last.items ∷ [] = search (rules, block) in
    let none : c.replace.new.dest.items ≡ [] = search (rules) in
    begun c.self.inside.full.items c.push_reserved.new.self.items c.self.inside.last.items c.replace.new.dest.items more none ∙ ap (λ (v : HistoryView). v.entries) c.self.view_is
