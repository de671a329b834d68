-- What a statement does to what is known of its place.
use Rattle.std.specs.Prelude.{ℕ, ◌≡◌, true, false, cond, is_some, None, IfSome}
use Rattle.terms_prelude.specs.Terms.{Size, Statement, FitsStep}
use Rattle.rbc.specs.declared.Brought.{Brought}
use Rattle.rbc.specs.declared.Taken.{Taken}
use Rattle.rbc.specs.declared.Taken.TheVariants.{News, Repeat, Foreign}
use Rattle.rbc.specs.declared.rules.Known.{Known}
use Rattle.rbc.specs.Known.{value_known, heard_known, accepted_known}
use Rattle.rbc.specs.Due.{echo_for, ready_for}

-- It counts, where none of its sender and kind did, and brings this.
pub record Counts (size : Size) (from : ℕ) (s : Statement) (old new : Known) (brought : Brought) : Type 0 where
  pub first : is_some (value_known s.place old from s.kind) ≡ false
  pub heard : new ≡ heard_known s.place old size from s.kind s.value
  pub echo : brought.due.echo ≡ echo_for size new s
  pub ready : brought.due.ready ≡ ready_for size new s
  pub accepted : brought.accepted ≡ cond (is_some (accepted_known s.place old)) None (accepted_known s.place new)
  pub fits : IfSome brought.accepted (λ m. FitsStep s.place.step m)

-- it counts, or is a repeat, which changes nothing
abbrev pub Receives : Size → ℕ → Statement → Known → Known → Taken → Type 0
Receives size from s old new (News brought) = Counts size from s old new brought
Receives size from s old new Repeat = (is_some (value_known s.place old from s.kind) ≡ true) × (new ≡ old)
Receives size from s old new Foreign = ⊥
