-- Those that wait for epochs, once clients of one came.
use Rattle.std.proofs.Common.{ℕ, ◌≡◌, List, ◌++◌, drop, length, take, sym, ap, ◌∙◌, subst}
use Rattle.std.specs.List.{All}
use Rattle.std.proofs.Math.Seq.{drop-append_seam, take-append_seam}
use Rattle.std.proofs.lemmas.List.{append_assoc, take-append-drop}
use Rattle.std.proofs.lemmas.List.Elements.{All-append}
use Rattle.epochs.specs.Parking.{IsClientOf, WaitOn}
use Rattle.epochs.specs.declared.state.Parked.{Parked}

more : (epoch : ℕ) (old new added : List Parked) → new ≡ old ++ added → All (IsClientOf epoch) added → WaitOn epoch old new
more epoch old new added is all = record {
  stay = ap (take (length old)) is ∙ take-append_seam old added;
  came = subst (All (IsClientOf epoch)) (sym (ap (drop (length old)) is ∙ drop-append_seam old added)) all;
}

behind : (epoch : ℕ) (old new : List Parked) → WaitOn epoch old new → new ≡ old ++ drop (length old) new
behind epoch old new on = sym (take-append-drop (length old) new) ∙ ap (λ (l : List Parked). l ++ drop (length old) new) on.stay

pub one_after_another : (epoch : ℕ) (a b c : List Parked) → WaitOn epoch a b → WaitOn epoch b c → WaitOn epoch a c
one_after_another epoch a b c first second =
    more epoch a c (drop (length a) b ++ drop (length b) c)
    (behind epoch b c second ∙ ap (λ (l : List Parked). l ++ drop (length b) c) (behind epoch a b first) ∙ append_assoc a (drop (length a) b) (drop (length b) c))
    (All-append (IsClientOf epoch) (drop (length a) b) (drop (length b) c) first.came second.came)
