-- One answer more of a file by what is supposed of it.
use Rattle.std.proofs.Common.{◌≡◌, ℕ, ◌≤◌, List, [], ◌∷◌, ◌++◌, length, take, Result, refl, sym, ap, subst, arith}
use Rattle.disk.specs.Model.{State, FailedWrite, Elapses}
use Rattle.disk.specs.Replay.{after_call, after_torn_write, LeftSince}
use Rattle.disk.specs.Laws.{outside_part, put_elsewhere, may_leave_seen}
use Rattle.disk.specs.Supposed.{FileModel, Reply, IsFaithful, IsAnswer, call_of, past_of, state_after}
use Rattle.disk.specs.Supposed.Reply.{Lost}
use Rattle.disk.proofs.Listed.{state_listed, elapses_listed}

-- a write that failed leaves what is outside its range
torn_failed : (s : State) (at n : ℕ) (bytes : List ℕ) → length s.synced ≤ length s.seen → FailedWrite at n s (after_torn_write s at n bytes)
torn_failed s at n bytes longer = record {
  synced = refl;
  written = refl;
  elsewhere = λ k within outside. put_elsewhere s.seen at (take n bytes) k (omega (arith, longer, within)) (outside_part k at n bytes outside);
}

module _ (file : FileModel) (old new : List Reply) (reply : Reply) (is : new ≡ reply ∷ old) where
  past_is : past_of file new ≡ past_of file (reply ∷ old)
  past_is = ap (past_of file) is

  -- the state after it
  pub next_state : state_after file new ≡ after_call (state_after file old) (call_of file old reply)
  next_state = state_listed (past_of file old) (past_of file new) (call_of file old reply) past_is

  -- it is one moment
  pub next_moment : {T E : Type 0} (result : Result T E)
      → Elapses (length (past_of file old).calls) (length (past_of file new).calls) (LeftSince (past_of file old).start (past_of file old).calls) (LeftSince (past_of file new).start (past_of file new).calls) (state_after file old) (state_after file new) result
  next_moment result = elapses_listed (past_of file old) (past_of file new) result (call_of file old reply) past_is

  -- the calls before it were answered as by the file, and so was this one
  pub was_faithful : IsFaithful file new → IsFaithful file old × IsAnswer (state_after file old) reply
  was_faithful so = subst (λ (l : List Reply). IsFaithful file l) is so

-- a write that failed
pub next_torn : (file : FileModel) (old new : List Reply) (at n : ℕ) → new ≡ Lost at n ∷ old → FailedWrite at n (state_after file old) (state_after file new)
next_torn file old new at n is =
    subst (λ (s : State). FailedWrite at n (state_after file old) s) (sym (next_state file old new (Lost at n) is))
    (torn_failed (state_after file old) at n (file.torn old) (may_leave_seen (past_of file old).start (past_of file old).calls).no_shorter)

-- what was answered before was answered as by the file
pub earlier : (file : FileModel) (later before : List Reply) → IsFaithful file (later ++ before) → IsFaithful file before
earlier file [] before so = so
earlier file (reply ∷ later) before so = earlier file later before so.0
