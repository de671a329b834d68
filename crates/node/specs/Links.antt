-- Which links of a member are up.
use Rattle.std.specs.Prelude.{ℕ, Bool, false, List, replicate}
use Rattle.std.specs.List.{count_by}

-- by the number of the member at their other end: those that come in, and the own ones that were welcomed
pub record LinksUp : Type 0 where
  pub incoming : List Bool
  pub outgoing : List Bool

abbrev pub none_up : ℕ → LinksUp
none_up members = record { incoming = replicate members false; outgoing = replicate members false }

-- how many of them are true
abbrev pub count_true : List Bool → ℕ
count_true flags = count_by (λ flag. flag) flags
