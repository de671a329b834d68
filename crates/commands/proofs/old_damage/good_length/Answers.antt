use Rattle.std.proofs.Common.{rules, ◌≡◌, ◌∙◌, ℕ, List, ap, sym, ◌++◌, length, min}
use Rattle.migration.specs.Old.{HasOldHeader, old_header_text}
use Rattle.commands.proofs.OldBatches.{good_up_to, header_front}
use Rattle.commands.proofs.old_damage.good_length.Goals as goal

pub behind_batches-requires-clause-front : goal.behind_batches-requires-clause-front
behind_batches-requires-clause-front c =
    let has : HasOldHeader c.in-Some.header c.args.file.now = search (rules, c.in_ok-header.ensures.some, c.in-Some.is) in
    let at : c.min.result ≡ min 24 (length c.args.file.now) = search (rules, c.min.ensures) in
    c.split_at.ensures.front ∙ (header_front c.in-Some.header c.args.file.now c.min.result has at).0

pub returns-clause-good : goal.returns-clause-good
returns-clause-good c = λ header other.
    let has : HasOldHeader c.in-Some.header c.args.file.now = search (rules, c.in_ok-header.ensures.some, c.in-Some.is) in
    let at : c.min.result ≡ min 24 (length c.args.file.now) = search (rules, c.min.ensures) in
    let parts : c.args.file.now ≡ old_header_text c.in-Some.header ++ c.split_at.result.1.now =
    (header_front c.in-Some.header c.args.file.now c.min.result has at).1 ∙ ap (λ (l : List ℕ). old_header_text c.in-Some.header ++ l) (sym c.split_at.ensures.back) in
    good_up_to c.in-Some.header header c.args.file.now c.split_at.result.1.now c.in_ok-rest.rest.now _ has other parts c.in_ok-rest.ensures (search rules)
