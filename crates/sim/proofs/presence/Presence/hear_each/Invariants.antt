use Rattle.std.proofs.Common.{◌≡◌, ◌<◌, ℕ, Bool, true, None}
use Rattle.std.specs.List.{AllByRecursion}
use Rattle.terms_prelude.specs.Terms.{Size, IsWellFormed}
use Rattle.world.specs.World.{World, IsCorrect}
use Rattle.sim.specs.Presences.{IsOneSound, IsPresenceAt, is_liar, mine}
use Rattle.sim.proofs.Lies.{HeardSoFar}
use Rattle.sim.proofs.presence.Presence.hear_each.Given as goal

abbrev pub invariant-loop-statement : goal.invariant-loop-statement
invariant-loop-statement l = record {
  sound : IsOneSound l.self;
  side : is_liar l.self ≡ is_liar l.initial.self;
  heard : (size : Size) (liars : ℕ → Bool) (p : ℕ) (w : World) → IsCorrect size liars p → w.doubt p ≡ None → IsPresenceAt (mine size p) w l.initial.self
      → l.from < size.n → liars l.from ≡ true → AllByRecursion (IsWellFormed size) l.statements
      → HeardSoFar size liars p w l.fused l.from l.toss.0 l.statements l.statement-index l.self;
}
