-- The rows of a chart that the words ask for.
use Rattle.std.specs.Prelude.{◌≡◌, ◌<◌, ◌≤◌, ◌⊎◌, None, IfSome}
use Rattle.terms_prelude.specs.Terms.{Size}
use Rattle.commands.specs.Pages.{Choice}
use Rattle.troubles.specs.declared.fault.Fault.{Fault}
use Rattle.troubles.specs.declared.fault.Fault.TheVariants as ends

-- no row is left out
abbrev pub IsAll : Choice → Type 0
IsAll choice = (choice.question ≡ None) × (choice.member ≡ None) × (choice.from ≡ None) × (choice.to ≡ None)

-- the numbers of the first and the last event are counted from 1, and in this order
abbrev pub AreBounds : Choice → Type 0
AreBounds choice = IfSome choice.from (λ from. 1 ≤ from) × IfSome choice.to (λ to. 1 ≤ to)
    × IfSome choice.from (λ from. IfSome choice.to (λ to. from ≤ to))

-- a cluster of that size has the question and the member
abbrev pub IsOfSize : Size → Choice → Type 0
IsOfSize size choice = IfSome choice.question (λ question. question < size.questions) × IfSome choice.member (λ member. member < size.n)

-- the fault is one of an option of rows
abbrev pub IsOfRows : Fault → Type 0
IsOfRows fault = (fault ≡ ends.Question) ⊎ ((fault ≡ ends.Member) ⊎ ((fault ≡ ends.First) ⊎ (fault ≡ ends.Last)))
