use Rattle.std.proofs.Common.{◌≡◌, ◌∙◌, true, false, sym}
use Rattle.asking.proofs.Tokens.{line_is_token}
use Rattle.asking.proofs.gate.token_in.Goals as goal

pub returns-else-is_token-clause-none : goal.returns-else-is_token-clause-none
returns-else-is_token-clause-none c = λ none token has.
    let yes : c.is_token.result ≡ true = c.is_token.ensures.1 (line_is_token _ _ token c.without_end-line.ensures.line c.without_end-line.ensures.end has) in
    let no : true ≡ false = sym yes ∙ c.if-is_token.false in
    cc
