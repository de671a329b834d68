-- How the questions of an epoch were decided.
use Rattle.std.specs.Prelude.{ℕ, ◌≡◌, ◌<◌, ◌==◌, ◌&&◌, ◌||◌, zero, suc, Bool, true, false, not, Option, None, Some, List, [], ◌∷◌, ◌++◌, filter, get_or, length, nat_lt, option_map, replicate}
use Rattle.std.specs.List.{list_any}
use Rattle.std.specs.Option.{is_none, is_some}
use Rattle.terms_prelude.specs.Terms.{Place, Record, Said, Decided, Initial, decided, new_place, said}
use Rattle.epochs.specs.declared.verdicts.Verdicts.{Verdicts}

-- the decision that a cell keeps, if it keeps one
abbrev pub cell_verdict : ℕ → Option Bool
cell_verdict (suc zero) = Some false
cell_verdict (suc (suc zero)) = Some true
cell_verdict _ = None

-- the decision of a question, if it is known
abbrev pub verdict_at : Verdicts → ℕ → Option Bool
verdict_at verdicts question = cell_verdict (get_or verdicts.cells.items question 0)

-- nothing of so many questions is known: none was proposed here, none is decided
pub record IsUntouched (questions : ℕ) (verdicts : Verdicts) : Type 0 where
  pub cells : verdicts.cells.items ≡ replicate questions 0
  pub order : verdicts.order.items ≡ []

-- whether it is a question of the epoch, and no decision of it is known
abbrev pub is_open : Verdicts → ℕ → Bool
is_open verdicts question = is_none (verdict_at verdicts question) && nat_lt question (length verdicts.cells.items)

-- a question isn't decided
abbrev pub has_open : Verdicts → Bool
has_open verdicts = nat_lt (length verdicts.order.items) (length verdicts.cells.items)

-- a question was proposed here and isn't decided, or one is decided
abbrev pub has_begun : Verdicts → Bool
has_begun verdicts = list_any (λ cell. cell == 3) verdicts.cells.items || nat_lt 0 (length verdicts.order.items)

-- the first, or else the second
abbrev pub first_of : Option Bool → Option Bool → Option Bool
first_of (Some bit) other = Some bit
first_of None other = other

-- the bit of a question's first decision among the records
abbrev pub decided_bit : List Record → ℕ → Option Bool
decided_bit records question = option_map (λ at. at.1) (decided records question)

-- the questions of the decisions among the records, in their order
abbrev pub decided_in : List Record → List ℕ
decided_in [] = []
decided_in (Said s ∷ records) = decided_in records
decided_in (Decided question round bit ∷ records) = question ∷ decided_in records

-- each of them where it comes first
abbrev pub first_ones : List ℕ → List ℕ
first_ones [] = []
first_ones (question ∷ questions) = question ∷ filter (λ other. not (other == question)) (first_ones questions)

-- the order of the decisions, once these records are read too
abbrev pub order_with : Verdicts → List Record → List ℕ
order_with verdicts records = verdicts.order.items ++ filter (is_open verdicts) (first_ones (decided_in records))

-- where a member says what was proposed to it
abbrev pub own_place : ℕ → ℕ → Place
own_place me question = new_place question me 1 1

-- whether the question was proposed to this member, by the records
abbrev pub was_proposed : ℕ → ℕ → List Record → Bool
was_proposed me question records = is_some (said records Initial (own_place me question))

-- whether the question was proposed here and isn't decided
abbrev pub waits : Verdicts → ℕ → Bool
waits verdicts question = get_or verdicts.cells.items question 0 == 3

-- the same, once these records are read too
abbrev pub waits_with : ℕ → Verdicts → ℕ → List Record → Bool
waits_with me verdicts question records =
    is_none (first_of (verdict_at verdicts question) (decided_bit records question))
    && (waits verdicts question || was_proposed me question records)

-- of each question of an epoch they have the first decision among the records, in the order of these
pub record SaysOf (questions : ℕ) (records : List Record) (verdicts : Verdicts) : Type 0 where
  pub size : length verdicts.cells.items ≡ questions
  pub each : (question : ℕ) → question < questions → verdict_at verdicts question ≡ decided_bit records question
  pub order : verdicts.order.items ≡ filter (λ question. nat_lt question questions) (first_ones (decided_in records))
