-- A fuse lets as many calls pass as it was set to, and no more.
use Rattle.std.proofs.Common.{◌≡◌, ℕ, zero, suc, ◌-◌, ◌<◌, ◌≤◌, true, false, Some, refl, ◌∙◌, ap, arith}
use Rattle.disk.specs.Fuse.{lets_pass, burnt_by}

-- each call takes one
pub burnt_by-some : (calls fuse : ℕ) → burnt_by calls (Some fuse) ≡ Some (fuse - calls)
burnt_by-some zero fuse = ap Some (omega arith)
burnt_by-some (suc calls) fuse = burnt_by-some calls (fuse - 1) ∙ ap Some (omega arith)

-- a call passes where one is left
some_passes : (calls : ℕ) → 0 < calls → lets_pass (Some calls) ≡ true
some_passes zero none = absurd (omega (arith, none))
some_passes (suc calls) more = refl

-- and none where none is
none_passes : (calls : ℕ) → calls ≡ 0 → lets_pass (Some calls) ≡ false
none_passes zero none = refl
none_passes (suc calls) none = absurd (omega (arith, none))

-- the calls that it was set to let pass
pub next_calls_pass : (calls fuse : ℕ) → calls < fuse → lets_pass (burnt_by calls (Some fuse)) ≡ true
next_calls_pass calls fuse before =
    ap lets_pass (burnt_by-some calls fuse) ∙ some_passes (fuse - calls) (omega (arith, before))

-- all after them
pub all_after_fail : (calls fuse : ℕ) → fuse ≤ calls → lets_pass (burnt_by calls (Some fuse)) ≡ false
all_after_fail calls fuse after =
    ap lets_pass (burnt_by-some calls fuse) ∙ none_passes (fuse - calls) (omega (arith, after))
