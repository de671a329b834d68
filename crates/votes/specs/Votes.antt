-- Who sent which value of a step. Contracts and the crates above cite `value_of`, `no_votes` and `with_vote`, and never
-- the masks.
use Rattle.std.specs.Prelude.{ℕ, ◌*◌, ◌%◌, ◌^◌, Bool, true, false, cond, ◌&&◌, ◌==◌, Option, Some, None, bit_or}
use Rattle.std.specs.Int.{bit_at}
use Rattle.terms_prelude.specs.Terms.{Value, Zero, One, SureZero, SureOne, Unsure}
use Rattle.votes.specs.declared.Votes.{Votes}

-- the member's bit is set
abbrev pub has_bit : ℕ → ℕ → Bool
has_bit mask member = bit_at mask member == 1

-- the mask with the member's bit
abbrev pub with_bit : ℕ → ℕ → ℕ
with_bit mask member = bit_or mask (1 * 2 ^ member % 2 ^ 64)

-- the value that speaks for 0, and that for 1, in step 3 or in another
abbrev pub zero_value : Bool → Value
zero_value third = cond third SureZero Zero

abbrev pub one_value : Bool → Value
one_value third = cond third SureOne One

-- it is a value of step 3, or of another
abbrev pub fits : Bool → Value → Bool
fits false Zero = true
fits false One = true
fits false SureZero = false
fits false SureOne = false
fits false Unsure = false
fits true Zero = false
fits true One = false
fits true SureZero = true
fits true SureOne = true
fits true Unsure = true

-- the value that these two bits stand for
abbrev pub value_at : Bool → Bool → Bool → Option Value
value_at third z o =
    cond z (cond (third && o) (Some Unsure) (Some (zero_value third))) (cond o (Some (one_value third)) None)

-- the value that the member sent
unfoldable pub value_of : Bool → Votes → ℕ → Option Value
value_of third votes member = value_at third (has_bit votes.zero member) (has_bit votes.one member)

-- nobody sent anything
unfoldable pub no_votes : Votes
no_votes = record { zero = 0; one = 0 }

-- the votes with the member's more
unfoldable pub with_vote : Votes → ℕ → Value → Votes
with_vote votes member Zero = record votes { zero = with_bit votes.zero member }
with_vote votes member One = record votes { one = with_bit votes.one member }
with_vote votes member SureZero = record votes { zero = with_bit votes.zero member }
with_vote votes member SureOne = record votes { one = with_bit votes.one member }
with_vote votes member Unsure = record { zero = with_bit votes.zero member; one = with_bit votes.one member }
