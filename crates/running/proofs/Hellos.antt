-- The bytes of a Hello, one by one.
use Rattle.std.proofs.Common.{ℕ, zero, suc, ◌≡◌, ◌+◌, List, [], ◌∷◌, ◌++◌, length, get_or, drop, refl, sym, ap, ◌∙◌, arith, length-drop}
use Rattle.std.proofs.Math.Seq.{drop-cons}
use Rattle.std.specs.Int.{w16, w64, to_be_bytes}
use Rattle.running.specs.Callers.{claim_bytes}

-- so many bytes, from a place on
abbrev firsts : ℕ → ℕ → List ℕ → List ℕ
firsts zero at bytes = []
firsts (suc k) at bytes = get_or bytes at 0 ∷ firsts k (suc at) bytes

by_place : (k at : ℕ) (bytes : List ℕ) → length bytes ≡ at + k → drop at bytes ≡ firsts k at bytes
by_place zero at bytes is = nil (drop at bytes) (length-drop at bytes ∙ omega (arith, is))
  where
    nil : (rest : List ℕ) → length rest ≡ 0 → rest ≡ []
    nil [] e = refl
    nil (byte ∷ rest) e = let no : ⊥ = omega (arith, e) in absurd no
by_place (suc k) at bytes is =
    drop-cons bytes at 0 (omega (arith, is)) ∙ ap (λ (t : List ℕ). get_or bytes at 0 ∷ t) (by_place k (suc at) bytes (omega (arith, is)))

-- eighteen bytes with these in front, of which eight are that number and two are that one, are the Hello that says so
pub spelled : (bytes : List ℕ) (cluster questions : ℕ) → length bytes ≡ 18 → get_or bytes 0 0 ≡ 0 → get_or bytes 1 0 ≡ 16 → get_or bytes 2 0 ≡ 1
    → to_be_bytes w64 cluster ≡ get_or bytes 4 0 ∷ get_or bytes 5 0 ∷ get_or bytes 6 0 ∷ get_or bytes 7 0 ∷ get_or bytes 8 0 ∷ get_or bytes 9 0
    ∷ get_or bytes 10 0 ∷ get_or bytes 11 0 ∷ []
    → to_be_bytes w16 questions ≡ get_or bytes 14 0 ∷ get_or bytes 15 0 ∷ []
    → bytes ≡ claim_bytes (record {
      version = get_or bytes 3 0;
      cluster = cluster;
      n = get_or bytes 12 0;
      t = get_or bytes 13 0;
      questions = questions;
      from = get_or bytes 16 0;
      to = get_or bytes 17 0;
    })
spelled bytes cluster questions count zeroth first second eight two =
    by_place 18 0 bytes count
    ∙ ap (λ (b : ℕ). b ∷ firsts 17 1 bytes) zeroth
    ∙ ap (λ (b : ℕ). 0 ∷ b ∷ firsts 16 2 bytes) first
    ∙ ap (λ (b : ℕ). 0 ∷ 16 ∷ b ∷ firsts 15 3 bytes) second
    ∙ ap (λ (b : List ℕ). 0 ∷ 16 ∷ 1 ∷ get_or bytes 3 0 ∷ (b ++ firsts 6 12 bytes)) (sym eight)
    ∙ ap (λ (b : List ℕ). 0 ∷ 16 ∷ 1 ∷ get_or bytes 3 0 ∷ (to_be_bytes w64 cluster ++ get_or bytes 12 0 ∷ get_or bytes 13 0 ∷ (b ++ firsts 2 16 bytes))) (sym two)
