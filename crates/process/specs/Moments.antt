-- The text of a moment in UTC.
use Rattle.std.specs.Prelude.{ℕ, ◌≡◌, ◌/◌, ◌%◌, List, ◌++◌, codes, pos, unsigned_abs}
use Rattle.std.specs.Fmt.{decimal}
use Rattle.jiff_core.specs.declared.civil.date.Date.{Date}
use Rattle.jiff_core.specs.Date.{epoch_day}

-- a number below 100, 1,000 or 10,000 in two, three or four digits
abbrev pub two_digits : ℕ → List ℕ
two_digits n = decimal (n / 10) ++ decimal (n % 10)

abbrev pub three_digits : ℕ → List ℕ
three_digits n = decimal (n / 100) ++ two_digits (n % 100)

abbrev pub four_digits : ℕ → List ℕ
four_digits n = two_digits (n / 100) ++ two_digits (n % 100)

-- the date, as 2026-11-26
abbrev pub date_text : Date → List ℕ
date_text date =
    four_digits (unsigned_abs date.year) ++ (codes "-" ++ (two_digits date.month ++ (codes "-" ++ two_digits date.day)))

-- the time of a day, as 22:31:04.217, so many milliseconds after it began
abbrev pub time_text : ℕ → List ℕ
time_text ms =
    two_digits (ms / 3600000) ++ (codes ":" ++ (two_digits (ms / 60000 % 60) ++ (codes ":"
    ++ (two_digits (ms / 1000 % 60) ++ (codes "." ++ three_digits (ms % 1000))))))

-- the text of the moment so many milliseconds after 1970 began, as 2026-11-26T22:31:04.217Z
pub record IsMoment (ms : ℕ) (text : List ℕ) : Type 0 where
  pub date : Date
  pub is_day : epoch_day date ≡ pos (ms / 86400000)
  pub is_text : text ≡ date_text date ++ (codes "T" ++ (time_text (ms % 86400000) ++ codes "Z"))
