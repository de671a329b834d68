-- A report is noted if its epoch runs.
use Rattle.std.proofs.Common.{ℕ, ◌≡◌, ◌∙◌, ◌==◌, ◌||◌, ◌&&◌, cond, if◌then◌else◌, max, subst, Bool, true, false, List, [], ◌∷◌, Option, None, Some, refl, sym, ap}
use Rattle.std.specs.List.{find, list_any}
use Rattle.std.specs.Option.{is_some, option_map}
use Rattle.epochs.specs.declared.board.Report.{Report}
use Rattle.epochs.specs.declared.running.Running.{Running}
use Rattle.epochs.specs.declared.state.State.{State}
use Rattle.epochs.specs.Opens.{runs}
use Rattle.epochs.specs.Reports.{noted, running_in}

any_found : {X : Type 0} (p : X → Bool) (xs : List X) → list_any p xs ≡ is_some (find p xs)
any_found p [] = refl
any_found {X} p (x ∷ xs) = by (p x) (any_found p xs) where
  by : (b : Bool) → list_any p xs ≡ is_some (find p xs) → (b || list_any p xs) ≡ is_some (cond b (Some x) (find p xs))
  by true h = refl
  by false h = h

told_of : (old new : Option Running) (report : Report) (told : Option (ℕ × Bool)) → new ≡ option_map (noted report) old
    → told ≡ option_map {T = Running} {U = ℕ × Bool} (λ one. (one.quiet, one.rests)) new → is_some old ≡ is_some told
told_of None new report told noted tells = sym (ap is_some (tells ∙ ap (option_map {T = Running} {U = ℕ × Bool} (λ one. (one.quiet, one.rests))) noted))
told_of (Some one) new report told noted tells = sym (ap is_some (tells ∙ ap (option_map {T = Running} {U = ℕ × Bool} (λ one. (one.quiet, one.rests))) noted))

-- it runs if something was told of it
pub runs_if_told : (old : State) (epoch : ℕ) (report : Report) (running : List Running) (new : List Running) (told : Option (ℕ × Bool)) → running ≡ old.running.items
    → running_in new epoch ≡ option_map (noted report) (running_in running epoch)
    → told ≡ option_map {T = Running} {U = ℕ × Bool} (λ one. (one.quiet, one.rests)) (running_in new epoch) → runs old epoch ≡ is_some told
runs_if_told old epoch report running new told same noted tells =
    any_found (λ (one : Running). one.epoch == epoch) old.running.items
    ∙ ap (λ (l : List Running). is_some (running_in l epoch)) (sym same)
    ∙ told_of (running_in running epoch) (running_in new epoch) report told noted tells

-- of an epoch that runs the newest is told as of one that was told
pub newest_if_runs : (old told : State) (epoch : ℕ) (report : Report) (newest : ℕ) → runs old epoch ≡ true → told.newest ≡ old.newest
    → newest ≡ (if report.is_begun then max told.newest epoch else told.newest)
    → newest ≡ (if runs old epoch && report.is_begun then max old.newest epoch else old.newest)
newest_if_runs old told epoch report newest run before is =
    subst (λ (b : Bool). newest ≡ (if b && report.is_begun then max old.newest epoch else old.newest)) (sym run)
    (subst (λ (n : ℕ). newest ≡ (if report.is_begun then max n epoch else n)) before is)
