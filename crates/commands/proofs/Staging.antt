-- The stage that a reply says is the only one.
use Rattle.std.proofs.Common.{ℕ, ◌≡◌, sym, subst, ap, refl, ◌∙◌, List, ◌∷◌, ◌++◌, codes, Option, Some, None, unwrap_or}
use Rattle.commands.specs.Replies.{AreRoundAndStep, IsRoundAndStep, SaysStage}
use Rattle.commands.specs.declared.stages.Stage.{Stage}
use Rattle.commands.specs.declared.stages.Stage.TheVariants.{Unproposed, Spent, Open}

-- the numbers of equal pairs
abbrev pair_or : ℕ × ℕ → Option (ℕ × ℕ) → ℕ × ℕ
pair_or other found = unwrap_or found other

pub same_step : (round step r s : ℕ) → ◌≡◌ {A = Option (ℕ × ℕ)} (Some (round, step)) (Some (r, s)) → IsRoundAndStep r s → IsRoundAndStep round step
same_step round step r s e is =
    subst (λ (p : ℕ × ℕ). IsRoundAndStep p.0 p.1) (sym (ap (pair_or (0, 0)) e)) is

pub same_open : (round step r s : ℕ) → ◌≡◌ {A = Option (ℕ × ℕ)} (Some (round, step)) (Some (r, s))
    → ◌≡◌ {A = Option Stage} (Some (Open round step)) (Some (Open r s))
same_open round step r s e = ap (λ (p : Option (ℕ × ℕ)). Some (Open (pair_or (0, 0) p).0 (pair_or (0, 0) p).1)) e

pub no_open : (r s : ℕ) → ◌≡◌ {A = Option (ℕ × ℕ)} None (Some (r, s)) → ⊥
no_open r s e = absurd (cc)

-- what stands behind `OPEN ` are the numbers of the reply
pub open_behind : (reply words : List ℕ) (r s : ℕ) → reply ≡ codes "OPEN " ++ words → SaysStage reply (Open r s) → AreRoundAndStep words r s
open_behind reply words r s is says =
    let same : says.0 ≡ words = same_tail says.0 words (sym says.1 ∙ is) in
    subst (λ (x : List ℕ). AreRoundAndStep x r s) same says.2
  where
    same_tail : (a b : List ℕ) → codes "OPEN " ++ a ≡ codes "OPEN " ++ b → a ≡ b
    same_tail a b e = cc

-- one of the three
pub said_stage : (reply : List ℕ) (found : Option Stage) → (reply ≡ codes "UNPROPOSED" → ⊥) → (reply ≡ codes "SPENT" → ⊥)
    → ((r s : ℕ) → SaysStage reply (Open r s) → found ≡ Some (Open r s)) → (stage : Stage) → SaysStage reply stage → found ≡ Some stage
said_stage reply found unlike other exact Unproposed says = absurd (unlike says)
said_stage reply found unlike other exact Spent says = absurd (other says)
said_stage reply found unlike other exact (Open r s) says = exact r s says
