use Rattle.std.proofs.Common.{ℕ, List, slice_set, ap}
use Rattle.journal.specs.Texts.{header_text}
use Rattle.journal.proofs.draft.new_draft.Goals as goal

pub returns-clause-text : goal.returns-clause-text
unfolding header_text
returns-clause-text c = ap (λ (l : List ℕ). slice_set l 0 0) c.new_file-file.ensures.text
