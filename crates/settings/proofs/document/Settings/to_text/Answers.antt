use Rattle.std.proofs.Common.{◌≡◌, ◌∙◌, List, ℕ, ap, false, true}
use Rattle.toml.specs.Parse.{parse_document}
use Rattle.settings.specs.Texts.{toml_text}
use Rattle.settings.proofs.Liking.{of_others}
use Rattle.settings.proofs.document.Settings.to_text.Goals as goal

pub returns-else-is_like-clause-fault : goal.returns-else-is_like-clause-fault
returns-else-is_like-clause-fault c =
    of_others (parse_document c.as_str.result.now) (parse_document (toml_text c.args.self.now)) c.in_ok-read.read c.args.self.now
    (ap (λ (bytes : List ℕ). parse_document bytes) (c.as_str.ensures.value ∙ c.in_ok-text.ensures)) c.in_ok-read.ensures.ok
    (λ like. (let no : false ≡ true = c.if-is_like.ensures.no like in cc))
