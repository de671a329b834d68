use Rattle.std.proofs.Common.{◌≡◌, ◌↔◌, true, subst, List, ℕ}
use Rattle.std.proofs.lemmas.Str.Pattern.{contains_text}
use Rattle.files.specs.Words.{HasPart}
use Rattle.files.proofs.words.is_about.Goals as goal

pub returns : goal.returns
returns c =
    subst (λ (mark : List ℕ). (c.contains.result ≡ true) ↔ HasPart c.args.said.now mark) c.mark_of.ensures (contains_text _ _ _ c.contains.ensures.cases)
