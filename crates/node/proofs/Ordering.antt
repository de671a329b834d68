-- Decisions in order, one record more.
use Rattle.std.proofs.Common.{ℕ, ◌≡◌, ◌⊎◌, ◌<◌, ◌≤◌, inl, inr, refl, sym, ap, subst, ◌∙◌, arith, Bool, Option, List, [], ◌∷◌, ◌++◌, length, append-nil}
use mathlib.Core.List.{IsPrefix}
use Rattle.disk.specs.declared.device.Disk.{Ghosts as DiskGhosts}
use Rattle.terms_prelude.specs.Terms.{Record, Said, Decided, Statement, Header}
use Rattle.questions.specs.Replay.{Entry}
use Rattle.member.specs.declared.member.Member.{Member}
use Rattle.member.specs.Words.{member_saved}
use Rattle.node.specs.declared.order.Decision.{Decision}
use Rattle.node.specs.Words.{AreDecisions, IsKept, IsOrdered, OrderView, TallyView, decisions_in}
use Rattle.node.proofs.Fronts.{front_of_more, front_self}

-- the decisions of two lists of records, one behind the other
pub in_both : (xs ys : List Record) → decisions_in (xs ++ ys) ≡ decisions_in xs ++ decisions_in ys
in_both [] ys = refl
in_both (Said s ∷ xs) ys = in_both xs ys
in_both (Decided q r b ∷ xs) ys = ap (λ (l : List Decision). record { question = q; bit = b } ∷ l) (in_both xs ys)

-- a statement is no decision
pub ordered_said : (n : ℕ) (xs : List Record) (s : Statement) (o : OrderView) → IsOrdered n xs o → IsOrdered n (xs ++ Said s ∷ []) o
ordered_said n xs s o h =
    let same : decisions_in (xs ++ Said s ∷ []) ≡ decisions_in xs = in_both xs (Said s ∷ []) ∙ append-nil (decisions_in xs) in
    record {
      most_is = h.most_is;
      are = record {
        front = subst (λ (l : List Decision). IsPrefix o.items l) (sym same) h.are.front;
        all = λ few. h.are.all few ∙ sym same;
      };
    }

-- a decision comes behind the others, where there is room
pub ordered_decided : (n : ℕ) (xs : List Record) (q r : ℕ) (b : Bool) (o o' : OrderView) → o'.most ≡ o.most
    → (length o.items < o.most → o'.items ≡ o.items ++ (record { question = q; bit = b }) ∷ [])
    → (o.most ≤ length o.items → o'.items ≡ o.items)
    → IsOrdered n xs o → IsOrdered n (xs ++ Decided q r b ∷ []) o'
ordered_decided n xs q r b o o' most room full h = step (below_or_not (length o.items) o.most)
  where
    below_or_not : (i k : ℕ) → (i < k) ⊎ (k ≤ i)
    below_or_not i k = grind arith

    d : Decision
    d = record { question = q; bit = b }

    more : decisions_in (xs ++ Decided q r b ∷ []) ≡ decisions_in xs ++ d ∷ []
    more = in_both xs (Decided q r b ∷ [])

    step : (length o.items < o.most) ⊎ (o.most ≤ length o.items) → IsOrdered n (xs ++ Decided q r b ∷ []) o'
    step (inl less) =
        let before : o.items ≡ decisions_in xs = h.are.all (omega (arith, less, h.most_is)) in
        let is : o'.items ≡ decisions_in (xs ++ Decided q r b ∷ []) = room less ∙ ap (λ (l : List Decision). l ++ d ∷ []) before ∙ sym more in
        record {
          most_is = most ∙ h.most_is;
          are = record {
            front = subst (λ (l : List Decision). IsPrefix o'.items l) is (front_self o'.items);
            all = λ few. is;
          };
        }
    step (inr past) =
        let is : o'.items ≡ o.items = full past in
        record {
          most_is = most ∙ h.most_is;
          are = record {
            front = subst (λ (l : List Decision). IsPrefix l (decisions_in (xs ++ Decided q r b ∷ []))) (sym is) (front_of_more o.items (decisions_in xs) (d ∷ []) (decisions_in (xs ++ Decided q r b ∷ [])) h.are.front more);
            all = λ few. absurd (omega (arith, few, past, h.most_is, ap length is));
          };
        }

-- what a book keeps has its decisions in order
pub kept_ordered : {D : Type 0} (disk : DiskGhosts D) (names : List ℕ) (header : Header) (cells : List ℕ) (m : Member D) (opened : ℕ) (history : List Entry) (known : List (Option Bool)) (tally : TallyView)
    → IsKept disk names header cells m opened history known tally → AreDecisions header.size.questions (member_saved m) tally.order.items
kept_ordered disk names header cells m opened history known tally kept = kept.tallied.ordered.are
