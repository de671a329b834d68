-- Replies that are held.
use Rattle.std.proofs.Common.{◌≡◌, ◌∙◌, ℕ, ◌+◌, ◌≤◌, refl, sym, ap, arith, List, [], ◌∷◌, ◌++◌, length, append_assoc, append-nil, length-append, Result, Ok, Err, OnOk, Bool, true, false, MatchBool}
use Rattle.links.specs.Told.{Told, has_written, has_failed, BreaksOff}
use Rattle.desk.specs.Turns.{Loses}

pub all_written : (told : Told) → has_written told [] ≡ told
all_written told = λ i. record told { written = append-nil told.written i }

pub written_on : (told : Told) (xs ys : List ℕ) → has_written (has_written told xs) ys ≡ has_written told (xs ++ ys)
written_on told xs ys = λ i. record told { written = append_assoc told.written xs ys i }

no_part : (part rest : List ℕ) → [] ≡ part ++ rest → part ≡ []
no_part [] rest whole = refl
no_part (byte ∷ part) rest whole = absurd (cc (whole))

-- nothing broke off, but there was a failure
pub nothing_broke : (old new : Told) → BreaksOff old new [] → new ≡ has_failed old
nothing_broke old new b = b.now ∙ ap (λ (l : List ℕ). has_failed (has_written old l)) (no_part b.part b.rest b.whole) ∙ ap has_failed (all_written old)

-- the bytes behind what was lost are lost
pub loses_more : (old now : Told) (bytes : List ℕ) → Loses old now [] → Loses old now bytes
loses_more old now bytes l = record {
  unsaid = l.unsaid;
  few = l.few;
  broke = record {
    part = [];
    rest = bytes;
    whole = refl;
    now = nothing_broke old (has_written now l.unsaid) l.broke ∙ ap has_failed (sym (all_written old));
  };
}

-- the write of what is held failed
pub loses_held : (old now : Told) (held : List ℕ) → length held ≤ 4096 → BreaksOff old now held → Loses (has_written old held) now []
loses_held old now held few b = record {
  unsaid = b.rest;
  few = (let n : length held ≡ length b.part + length b.rest = ap length b.whole ∙ length-append b.part b.rest in omega arith);
  broke = record {
    part = [];
    rest = [];
    whole = refl;
    now = ap (λ (t : Told). has_written t b.rest) b.now
        ∙ ap has_failed (written_on old b.part b.rest ∙ ap (λ (l : List ℕ). has_written old l) (sym b.whole) ∙ sym (all_written (has_written old held)));
  };
}

-- what was held is written, and none is held
pub tells_held : (old new : Told) (held left : List ℕ) → new ≡ has_written old held → left ≡ [] → has_written new left ≡ has_written old held
tells_held old new held left wrote none = ap (λ (l : List ℕ). has_written new l) none ∙ all_written new ∙ wrote

-- and then something else happened
pub behind_held : (old mid new : Told) (left : List ℕ) (happens : Told → Told) → left ≡ [] → mid ≡ old → new ≡ happens mid → has_written new left ≡ happens old
behind_held old mid new left happens none wrote is = ap (λ (l : List ℕ). has_written new l) none ∙ all_written new ∙ is ∙ ap happens wrote

-- some bytes more are held
pub holds_more : (old now : Told) (bytes left longer : List ℕ) → has_written now left ≡ old → longer ≡ left ++ bytes → has_written now longer ≡ has_written old bytes
holds_more old now bytes left longer same is =
    ap (λ (l : List ℕ). has_written now l) is ∙ sym (written_on now left bytes) ∙ ap (λ (t : Told). has_written t bytes) same

-- two facts of one success
pub both_ok : {A E P Q R : Type 0} (r : Result A E) → (P → Q → R) → OnOk r P → OnOk r Q → OnOk r R
both_ok (Ok a) both p q = both p q
both_ok (Err e) both p q = tt

-- the second of two cases, where the first isn't so
pub other_case : (P Q : Type 0) (first : Bool) → first ≡ false → MatchBool first P Q → Q
other_case P Q true denied either = absurd (cc (denied))
other_case P Q false denied either = either
