-- Tokens that were written one after the other.
use Rattle.std.proofs.Common.{◌≡◌, ◌∙◌, ap, List, ◌++◌, append_assoc}
use Rattle.json.specs.Token.{Token}

-- what is known after the first ones and after the second ones
pub joined : (old mid new first second : List Token) → mid ≡ old ++ first → new ≡ mid ++ second → new ≡ old ++ (first ++ second)
joined old mid new first second m n = n ∙ (ap (λ (ts : List Token). ts ++ second) m ∙ append_assoc old first second)
