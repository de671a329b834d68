-- The account of a book: the groups that it heard, in order. It only grows, and of a beginning that was seen it is known
-- ever after that it was reached.
use Rattle.std.specs.Prelude.{ℕ, ◌≡◌, ◌⊎◌, ◌==◌, true, List, [], ◌∷◌, ◌++◌, length, MatchBool, if◌then◌else◌}
use Rattle.logbook.specs.Pages.{Cell, Step, View, Book, Named}
use Rattle.terms_prelude.specs.Terms.{Statement}

-- statements that were heard together, each with its sender and its toss
abbrev pub Group : Type 0
Group = List (ℕ × Statement × ℕ)

-- which board it is: the names of its cells, and the account of the book that publishes on it
pub record BoardName : Type 0 where
  pub cells : List ℕ
  pub account : Book

-- how far somebody saw an account: which one, and the groups that it then had
pub record SightView : Type 0 where
  pub account : Book
  pub log : List Group

-- the words of an account: the number of its groups, and one that isn't used
abbrev pub words_of : List Group → List Cell
words_of log = (length log, true) ∷ (0, true) ∷ []

-- the word with that number
abbrev pub count_of : Book → Named
count_of account = record { tracked = true; key = 0; book = account }

-- where as many groups were found as had been seen the account has one more, and else it has as many as were found
abbrev pub Appends : Step Group → View Group ℕ → ℕ → View Group ℕ → Type 0
Appends s before found after = MatchBool (found == s.old) (after.0 ≡ before.0 ++ s.ask ∷ []) (length after.0 ≡ found)

-- the account with one group more, if there are statements in it
abbrev pub with_group : List Group → Group → List Group
with_group log [] = log
with_group log (e ∷ es) = log ++ (e ∷ es) ∷ []

-- what this member said in a group, in order
abbrev pub said_in_group : ℕ → Group → List Statement
said_in_group peer [] = []
said_in_group peer (e ∷ es) = if e.0 == peer then e.1 ∷ said_in_group peer es else said_in_group peer es

-- what it said in all groups of an account
abbrev pub said_by : ℕ → List Group → List Statement
said_by peer [] = []
said_by peer (group ∷ log) = said_in_group peer group ++ said_by peer log

-- they stand in the other list, each at a place of its own, in order
abbrev pub IsWithin : List Statement → List Statement → Type 0
IsWithin [] all = Unit {0}
IsWithin (s ∷ some) [] = ⊥
IsWithin (s ∷ some) (t ∷ all) = ((s ≡ t) × IsWithin some all) ⊎ IsWithin (s ∷ some) all
