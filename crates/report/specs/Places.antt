-- Where things stand in a chart. Lengths are pixels, counted from the upper left corner.
use Rattle.std.specs.Prelude.{ℕ, zero, suc, ◌+◌, ◌*◌, ◌/◌, List, [], ◌++◌}
use Rattle.report.specs.Drawings.{Element}

-- where the column of a member stands
abbrev pub column_x : ℕ → ℕ
column_x member = 220 * member + 110

-- how far down the row of that number stands, counted from 0. Behind each 40 rows there is room for the heads.
abbrev pub row_y : ℕ → ℕ
row_y row = 36 * (row + row / 40) + 66

-- the elements of each of the first so many members, in order
abbrev pub of_members : ℕ → (ℕ → List Element) → List Element
of_members zero elements = []
of_members (suc members) elements = of_members members elements ++ elements members
