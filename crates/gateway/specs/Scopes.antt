-- The questions that a gateway knows: of a cluster or of a chain.
use Rattle.std.specs.Prelude.{ℕ, ◌==◌, ◌+◌, ◌*◌, ◌/◌, if◌then◌else◌, max, min, nat_lt}
use Rattle.gateway.specs.declared.scopes.Scope.{Scope}

-- a request may name any question below this number: in a chain there is always a next one
unfoldable pub question_count : Scope → ℕ
question_count scope = if scope.chain then 18446744073709551615 else scope.size.questions

-- how many questions a gateway knows at once: all of a cluster, and of a chain 8,192, or four epochs if they are more
unfoldable pub window_length : Scope → ℕ
window_length scope = if scope.chain then max 8192 (4 * scope.size.questions) else scope.size.questions

-- the first slot of the slot's epoch
abbrev pub epoch_start : ℕ → ℕ → ℕ
epoch_start questions slot = slot / questions * questions

-- the number after this one, of those that are below 2^64
abbrev pub after : ℕ → ℕ
after number = min 18446744073709551615 (number + 1)

-- the number from which one follows a member of a chain, after it told a decision of this slot: one of a later epoch is that one's
-- first, and one of an epoch that was passed is none that is counted
abbrev pub chain_number : ℕ → ℕ → ℕ → ℕ
chain_number questions number slot =
    if nat_lt (slot / questions) (number / questions) then number
    else (if slot / questions == number / questions then after number else after (epoch_start questions slot))

-- the same of a member of this cluster or chain
unfoldable pub next_number : Scope → ℕ → ℕ → ℕ
next_number scope number slot = if scope.chain then chain_number scope.size.questions number slot else after number
