-- What `bracha rounds` prints.
use Rattle.std.specs.Prelude.{ℕ, zero, suc, ◌==◌, ltb, Bool, true, false, max, List, [], ◌∷◌, ◌++◌, codes, length}
use Rattle.std.specs.List.{count_by}
use Rattle.std.specs.Fmt.{decimal}
use Rattle.chances.specs.declared.ends.End.{End}
use Rattle.chances.specs.declared.ends.End.TheVariants.{Decided, Open, TwoAnswers}

-- two ends are one
abbrev pub is_end : End → End → Bool
is_end (Decided a) (Decided b) = a == b
is_end (Decided a) Open = false
is_end (Decided a) TwoAnswers = false
is_end Open (Decided b) = false
is_end Open Open = true
is_end Open TwoAnswers = false
is_end TwoAnswers (Decided b) = false
is_end TwoAnswers Open = false
is_end TwoAnswers TwoAnswers = true

-- how many ended so
abbrev pub count_of : End → List End → ℕ
count_of wanted ends = count_by (λ end. is_end end wanted) ends

-- the last round of a decision, or 0
abbrev pub round_of : End → ℕ
round_of (Decided round) = round
round_of Open = 0
round_of TwoAnswers = 0

abbrev pub last_round : List End → ℕ
last_round [] = 0
last_round (end ∷ ends) = max (round_of end) (last_round ends)

-- the line of a round
abbrev pub round_line : List End → ℕ → List ℕ
round_line ends round =
    codes "round " ++ (decimal round ++ (codes ": " ++ (decimal (count_of (Decided round) ends) ++ codes "\n")))

-- the lines of the first rounds, so many
abbrev pub round_lines : List End → ℕ → List ℕ
round_lines ends zero = []
round_lines ends (suc rounds) = round_lines ends rounds ++ round_line ends (suc rounds)

-- the lines of the open ones and of all
abbrev pub sum_lines : List End → List ℕ
sum_lines ends =
    codes "open: " ++ (decimal (count_of Open ends) ++ (codes "\nquestions: " ++ (decimal (length ends) ++ codes "\n")))

-- the table
abbrev pub table_text : List End → List ℕ
table_text ends = round_lines ends (last_round ends) ++ sum_lines ends

-- one that ended so was open behind the round: not decided in it or before
abbrev pub is_open_behind : ℕ → End → Bool
is_open_behind round (Decided last) = ltb round last
is_open_behind round Open = true
is_open_behind round TwoAnswers = true

-- how many were open behind the round
abbrev pub open_behind : ℕ → List End → ℕ
open_behind round ends = count_by (is_open_behind round) ends
