-- Lines of events, in turn.
use Rattle.std.proofs.Common.{ℕ, zero, suc, ◌∙◌, ◌-◌, take, take_all, length-drop, arith, ◌≡◌, ◌+◌, ◌<◌, ◌≤◌, refl, sym, ap, subst, inl, inr, ◌⊎◌, List, [], ◌∷◌, length, drop, get_or}
use Rattle.std.proofs.lemmas.List.{drop_all}
use Rattle.terms_prelude.specs.Terms.{Size}
use Rattle.script.specs.Words.{ScriptFault, Line, Made, LeadsBy, LeadTo, BreaksAt, BreakBy, numbered}
use Rattle.script.specs.declared.fault.ScriptFault.TheVariants as faults
use Rattle.script.proofs.Counting.{next_of}

-- what the lines that are left come to, all come to
pub record Reached (size : Size) (correct : List ℕ) (start : Made) (all : List (ℕ × List ℕ)) (now : Made) (left : List (ℕ × List ℕ)) : Type 0 where
  pub leads : (after : Made) → LeadTo size correct now left after → LeadTo size correct start all after
  pub breaks : (fault : ScriptFault) → BreakBy size correct now left fault → BreakBy size correct start all fault

pub reached_start : (size : Size) (correct : List ℕ) (start : Made) (lines : List Line) → Reached size correct start (numbered lines) start (numbered (drop 0 lines))
reached_start size correct start lines = record { leads = λ after h. h; breaks = λ fault h. h }

-- what the line at an index is
abbrev pub line_at : List Line → ℕ → Line → ℕ × List ℕ
line_at lines i d = ((get_or lines i d).number, (get_or lines i d).text.now)

-- one line more
pub reached_next : (size : Size) (correct : List ℕ) (start : Made) (lines : List Line) (i : ℕ) (d : Line) (now next : Made) → i < length lines
    → LeadsBy size correct now (line_at lines i d) next
    → Reached size correct start (numbered lines) now (numbered (drop i lines)) → Reached size correct start (numbered lines) next (numbered (drop (i + 1) lines))
reached_next size correct start lines i d now next lt by before = record {
  leads = λ after h. before.leads after (subst (λ (ls : List Line). LeadTo size correct now (numbered ls) after) (sym (next_of lines i d lt)) (next, by, h));
  breaks = λ fault h. before.breaks fault (subst (λ (ls : List Line). BreakBy size correct now (numbered ls) fault) (sym (next_of lines i d lt)) (inr (next, by, h)));
}

-- a line that breaks
pub broken_here : (size : Size) (correct : List ℕ) (start : Made) (lines : List Line) (i : ℕ) (d : Line) (now : Made) (fault : ScriptFault) → i < length lines
    → BreaksAt size correct now (line_at lines i d) fault
    → Reached size correct start (numbered lines) now (numbered (drop i lines)) → BreakBy size correct start (numbered lines) fault
broken_here size correct start lines i d now fault lt at before =
    before.breaks fault (subst (λ (ls : List Line). BreakBy size correct now (numbered ls) fault) (sym (next_of lines i d lt)) (inl at))

-- all lines
pub reached_end : (size : Size) (correct : List ℕ) (start : Made) (lines : List Line) (i : ℕ) (now : Made) → length lines ≤ i
    → Reached size correct start (numbered lines) now (numbered (drop i lines)) → LeadTo size correct start (numbered lines) now
reached_end size correct start lines i now most before =
    before.leads now (subst (λ (ls : List Line). LeadTo size correct now (numbered ls) now) (sym (drop_all i lines most)) refl)

-- the same, or memory was refused there
pub broken_or_refused : (size : Size) (correct : List ℕ) (start : Made) (lines : List Line) (i : ℕ) (d : Line) (now : Made) (fault : ScriptFault) → i < length lines
    → (fault ≡ faults.Memory) ⊎ BreaksAt size correct now (line_at lines i d) fault
    → Reached size correct start (numbered lines) now (numbered (drop i lines)) → (fault ≡ faults.Memory) ⊎ BreakBy size correct start (numbered lines) fault
broken_or_refused size correct start lines i d now fault lt (inl e) before = inl e
broken_or_refused size correct start lines i d now fault lt (inr at) before = inr (broken_here size correct start lines i d now fault lt at before)

-- the lines from a place on, with their numbers
pub numbered_drop : (k : ℕ) (lines : List Line) → numbered (drop k lines) ≡ drop k (numbered lines)
numbered_drop zero lines = refl
numbered_drop (suc k) [] = refl
numbered_drop (suc k) (line ∷ lines) = numbered_drop k lines

pub numbered_from : (k : ℕ) (lines : List Line) → numbered (take (length lines - k) (drop k lines)) ≡ drop k (numbered lines)
numbered_from k lines =
    let l = length-drop k lines in
    ap numbered (take_all (length lines - k) (drop k lines) (omega arith)) ∙ numbered_drop k lines
