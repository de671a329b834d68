-- Why a script isn't run.
use Rattle.std.proofs.Common.{ℕ, ◌≡◌, ◌⊎◌, Bool, true, false, refl, sym, subst, List, Result, Ok, Err, IfErr, inl, inr}
use Rattle.std.specs.Result.{IsErrAnd, IsErrOf}
use Rattle.commands.specs.declared.fault.SimulateFault.{SimulateFault}
use Rattle.commands.specs.declared.fault.SimulateFault.TheVariants as ended
use Rattle.script.specs.declared.fault.ScriptFault.{ScriptFault}
use Rattle.script.specs.declared.fault.ScriptFault.TheVariants as unread
use Rattle.terms_prelude.specs.Terms.{Size}
use Rattle.script.specs.Words.{TossedAct, SaysCluster, IsFirstFault}
use Rattle.sim.specs.declared.faults.SimFault.{SimFault}
use Rattle.sim.specs.declared.faults.SimFault.TheVariants as unrun
use Rattle.sim.specs.Outcomes.{AreLiars}
use Rattle.commands.specs.Faults.{of_script, of_sim, IsOfSimulate}

-- the command's fault is the one that was made of another
made_of : {A : Type 0} (text : List ℕ) (result : Result A SimulateFault) (ends : SimulateFault) → IsErrAnd result (λ given. given ≡ ends) → IsOfSimulate text ends → IfErr result (IsOfSimulate text)
made_of text (Ok x) ends is of = tt
made_of text (Err e) ends is of = subst (λ (f : SimulateFault). IsOfSimulate text f) (sym is) of

of_unread : (text : List ℕ) (fault : ScriptFault) → (fault ≡ unread.Memory) ⊎ IsFirstFault text fault → IsOfSimulate text (of_script fault)
of_unread text (unread.Line number) (inl other) = absurd cc
of_unread text (unread.Line number) (inr first) = first
of_unread text unread.Events (inl other) = absurd cc
of_unread text unread.Events (inr first) = first
of_unread text (unread.Size size) (inl other) = absurd cc
of_unread text (unread.Size size) (inr first) = first
of_unread text unread.Memory known = tt

-- a text that is no script
pub unread_ends : {A : Type 0} (text : List ℕ) (result : Result A SimulateFault) (fault : ScriptFault) → IsErrAnd result (λ given. given ≡ of_script fault)
    → (fault ≡ unread.Memory) ⊎ IsFirstFault text fault → IfErr result (IsOfSimulate text)
unread_ends text result fault is first = made_of text result (of_script fault) is (of_unread text fault first)

-- the run of a script answered this fault
abbrev Answered : Type 0 → SimFault → SimFault → Type 0
Answered B fault one = IsErrOf {T = B} {E = SimFault} (Err fault) one

of_unrun : {B : Type 0} (text : List ℕ) (size : Size) (liars : List ℕ) (events : List TossedAct) (fault : SimFault) → SaysCluster text size liars events → (Answered B fault unrun.BadLiars → AreLiars size liars → ⊥)
    → (Answered B fault unrun.BadDisks → ⊥) → (Answered B fault unrun.Device → ⊥) → (Answered B fault unrun.Full → ⊥) → IsOfSimulate text (of_sim fault)
of_unrun text size liars events unrun.BadLiars says bad disks device full = (size, liars, events, says, bad refl)
of_unrun text size liars events unrun.BadDisks says bad disks device full = disks refl
of_unrun text size liars events unrun.Device says bad disks device full = device refl
of_unrun text size liars events unrun.Memory says bad disks device full = tt
of_unrun text size liars events unrun.Full says bad disks device full = full refl

-- a script that can't be run
pub unrun_ends : {A B : Type 0} (text : List ℕ) (size : Size) (liars : List ℕ) (events : List TossedAct) (result : Result A SimulateFault) (fault : SimFault) → IsErrAnd result (λ given. given ≡ of_sim fault)
    → SaysCluster text size liars events → (Answered B fault unrun.BadLiars → AreLiars size liars → ⊥) → (Answered B fault unrun.BadDisks → ⊥) → (Answered B fault unrun.Device → ⊥) → (Answered B fault unrun.Full → ⊥)
    → IfErr result (IsOfSimulate text)
unrun_ends {A} {B} text size liars events result fault is says bad disks device full =
    made_of text result (of_sim fault) is (of_unrun {B = B} text size liars events fault says bad disks device full)

-- memory was refused
pub memory_ends : {A : Type 0} (text : List ℕ) (result : Result A SimulateFault) (ends : SimulateFault) → IsErrAnd result (λ given. given ≡ ends) → ends ≡ ended.Memory → IfErr result (IsOfSimulate text)
memory_ends text result ends is memory = made_of text result ends is (subst (λ (f : SimulateFault). IsOfSimulate text f) (sym memory) tt)

-- tables of one content are one
pub same_table : (a b : ℕ → Bool) → ((p : ℕ) → a p ≡ b p) → a ≡ b
same_table a b same = λ i p. same p i

-- no bit is both
pub both_ways : (b : Bool) → b ≡ false → b ≡ true → ⊥
both_ways b here there = cc
