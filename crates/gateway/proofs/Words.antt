-- A line of a desk has its numbers in one way.
use Rattle.std.proofs.Common.{ℕ, ◌≡◌, sym, subst, ◌∙◌, List, ◌∷◌, ◌++◌}
use Rattle.numerals.specs.Numbers.{IsBelow}
use Rattle.numerals.specs.Spaces.{NoSpace}
use Rattle.numerals.proofs.Cuts.{digits_spaceless, one_cut}
use Rattle.gateway.specs.declared.replies.Reply.TheVariants.{Decided, Up, Links, Epochs, Taken, Have, Told, Spent, Stopped, Other}
use Rattle.gateway.specs.Replies.{Tells, TellsNoNumbers, TellsNothing, TellsNoWord}

-- a number before a space is what stands before the first one
pub cut_number : (words first second head tail : List ℕ) (number : ℕ) → words ≡ head ++ 32 ∷ tail → NoSpace head
    → words ≡ first ++ 32 ∷ second → IsBelow 64 first number → (first ≡ head) × (second ≡ tail)
cut_number words first second head tail number cut none whole is =
    one_cut first head second tail (digits_spaceless first is.number_is.digits_are.1) none (sym whole ∙ cut)

-- the same words write the same number
pub same_number : (digits other : List ℕ) (number : ℕ) → other ≡ digits → IsBelow 64 other number → IsBelow 64 digits number
same_number digits other number same is = subst (λ (word : List ℕ). IsBelow 64 word number) same is

-- a line that tells no numbers and no word tells nothing
pub nothing : (line : List ℕ) → TellsNoNumbers line → TellsNoWord line → TellsNothing line
nothing line numbers words (Decided question bit) is = numbers.decided question bit is
nothing line numbers words (Up statements decided) is = numbers.up statements decided is
nothing line numbers words (Links coming going) is = numbers.links coming going is
nothing line numbers words (Epochs closed newest) is = numbers.epochs closed newest is
nothing line numbers words Taken is = words.taken is
nothing line numbers words Have is = words.have is
nothing line numbers words (Told bit) is = words.told bit is
nothing line numbers words Spent is = words.spent is
nothing line numbers words Stopped is = words.stopped is
nothing line numbers words Other is = is
