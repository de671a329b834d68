-- What a crash within a call left is in doubt.
use Rattle.std.proofs.Common.{◌≡◌, ◌⊎◌, inl, inr, ⊎_elim, ℕ, List, ◌++◌, Option, Some, false, sym, subst}
use Rattle.terms_prelude.specs.Terms.{Header, Record, Event, Hearing, Proposal, Statement}
use Rattle.terms.specs.Keep.{put}
use Rattle.world.specs.Words.{World, after, Hears}
use Rattle.world.proofs.Runs.{put-here}
use Rattle.disk.specs.Model.{State, MayLeave, at_rest}
use Rattle.journal.specs.File.{Holds}
use Rattle.member.specs.Words.{IsLeft, world_step}
use Rattle.member.specs.Laws.{IsLeftIn}
use Rattle.member.proofs.Standing.{rest_holds}

-- a file that holds what was saved, or that and a batch, leaves the batch in doubt
pub left_over : (header : Header) (state : State) (saved batch : List Record)
    → Holds header saved state.seen ⊎ Holds header (saved ++ batch) state.seen → state ≡ at_rest state.seen
    → IsLeft state header saved (Some batch)
left_over header state saved batch held rest file may =
    let left : MayLeave (at_rest state.seen) file = subst (λ (s : State). MayLeave s file) rest may in
    ⊎_elim (λ one. inl (rest_holds header saved state.seen file one left))
    (λ two. inr (rest_holds header (saved ++ batch) state.seen file two left)) held

-- so the world has it once the event has come and gone down
in_doubt_at : (w : World) (header : Header) (state : State) (batch : List Record) → IsLeft state header (w.journal header.me) (Some batch)
    → IsLeft state header (w.journal header.me) (put w.doubt header.me (Some batch) header.me)
in_doubt_at w header state batch left =
    subst (λ (d : Option (List Record)). IsLeft state header (w.journal header.me) d) (sym (put-here w.doubt header.me (Some batch))) left

pub left_in : (w : World) (header : Header) (state : State) (event : Event) (batch : List Record) → IsLeft state header (w.journal header.me) (Some batch)
    → IsLeftIn (after w (world_step header.me event batch false)) header state
left_in w header state (Hearing from s) batch left = in_doubt_at w header state batch left
left_in w header state (Proposal question bit) batch left = in_doubt_at w header state batch left

pub left_in_all : (w : World) (header : Header) (state : State) (es : List (ℕ × Statement)) (batch : List Record) → IsLeft state header (w.journal header.me) (Some batch)
    → IsLeftIn (after w (Hears header.me es batch false)) header state
left_in_all w header state es batch left = in_doubt_at w header state batch left
