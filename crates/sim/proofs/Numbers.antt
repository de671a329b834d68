-- Statements by their numbers.
use Rattle.std.proofs.Common.{◌≡◌, ◌+◌, ◌<◌, ◌≤◌, ℕ, zero, suc, Some, None, List, [], ◌∷◌, length, get_or, drop, refl, sym, ap, ◌∙◌, arith}
use Rattle.std.proofs.Math.Seq.{drop-cons}
use Rattle.terms_prelude.specs.Terms.{Statement, Record, Said, Decided}
use Rattle.member.specs.declared.sealed.Sealed.{Sealed}
use Rattle.member.specs.Sealed.{sealed_from}
use Rattle.sim.specs.Presences.{nth_said}

-- there are more records than the number of a statement says
pub nth_bound : (records : List Record) (k : ℕ) (s : Statement) → nth_said records k ≡ Some s → k < length records
nth_bound [] k s h = cc
nth_bound (Said x ∷ records) zero s h = omega arith
nth_bound (Said x ∷ records) (suc k) s h = let l = nth_bound records k s h in omega arith
nth_bound (Decided question round bit ∷ records) k s h = let l = nth_bound records k s h in omega arith

-- the one of that number in an outbox
pub nth_sealed : (records : List Record) (n k : ℕ) (d : Sealed) → k < length (sealed_from n records) → nth_said records k ≡ Some (get_or (sealed_from n records) k d).statement
nth_sealed [] n k d l = absurd (omega arith)
nth_sealed (Said x ∷ records) n zero d l = refl
nth_sealed (Said x ∷ records) n (suc k) d l = nth_sealed records (n + 1) k d (omega arith)
nth_sealed (Decided question round bit ∷ records) n k d l = nth_sealed records n k d l

pub nth_none : (records : List Record) (n k : ℕ) → length (sealed_from n records) ≤ k → nth_said records k ≡ None
nth_none [] n k l = refl
nth_none (Said x ∷ records) n zero l = absurd (omega arith)
nth_none (Said x ∷ records) n (suc k) l = nth_none records (n + 1) k (omega arith)
nth_none (Decided question round bit ∷ records) n k l = nth_none records n k l

-- the search for it ends
pub found : (records : List Record) (number i left : ℕ) (x : Record) (s : Statement) → i < length records → x ≡ get_or records i x → x ≡ Said s
    → left ≡ 0 → nth_said records number ≡ nth_said (drop i records) left → nth_said records number ≡ Some s
found records number i left x s l at is zero_left h =
    h ∙ ap (λ (k : ℕ). nth_said (drop i records) k) zero_left
    ∙ ap (λ (r : List Record). nth_said r 0) (drop-cons records i x l ∙ ap (λ (y : Record). y ∷ drop (suc i) records) (sym at ∙ is))
