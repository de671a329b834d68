-- The numbers of a reply are the only ones.
use Rattle.std.proofs.Common.{ℕ, ◌≡◌, ◌≤◌, ◌||◌, Bool, false, Result, Ok, Err, IfOk, sym, subst, ap, refl, ◌∙◌, inl, inr, List, ◌∷◌, ◌++◌, codes, Option, Some, None, IfSome, IsNone, IsTrue, Bor, is_some, unwrap_or}
use Rattle.numerals.specs.Spaces.{NoSpace}
use Rattle.numerals.proofs.Cuts.{no_cut, one_cut}
use Rattle.commands.specs.Talks.{IsUp}
use Rattle.commands.specs.Replies.{AreCounts, HasCounts, HasFirst, HasLinks, AreFour, IsCount, IsLinks, IsPlainReply, IsReady, IsReplyLine, IsUnlinked, SaysFixed}
use Rattle.commands.specs.declared.replies.Links.{Links}
use Rattle.commands.specs.Closings.{AreEpochs, HasEpochs, IsEpochs}
use Rattle.commands.specs.declared.closing.Closing.{Closing}

-- words that are cut at a space have these numbers on its two sides
pub cut_counts : (words word behind : List ℕ) (m d : ℕ) → words ≡ word ++ 32 ∷ behind → NoSpace word → AreCounts words m d → IsCount word m × IsCount behind d
cut_counts words word behind m d cut spaceless are =
    let one = one_cut are.0 word are.1 behind are.3 spaceless (sym are.2 ∙ cut) in
    (subst (λ (x : List ℕ). IsCount x m) one.0 are.4, subst (λ (x : List ℕ). IsCount x d) one.1 are.5)

-- words without a space have none
pub no_counts : (words : List ℕ) (m d : ℕ) → NoSpace words → AreCounts words m d → ⊥
no_counts words m d spaceless are = no_cut words are.0 are.1 spaceless are.2

-- what stands behind `UP ` has the numbers of the reply
pub counts_behind : (reply words : List ℕ) (m d : ℕ) → reply ≡ codes "UP " ++ words → HasCounts reply m d → AreCounts words m d
counts_behind reply words m d is has =
    let same : has.0 ≡ words = same_tail has.0 words (sym has.1 ∙ is) in
    subst (λ (x : List ℕ). AreCounts x m d) same has.2
  where
    same_tail : (a b : List ℕ) → codes "UP " ++ a ≡ codes "UP " ++ b → a ≡ b
    same_tail a b e = cc

-- nothing is no number
pub never : {A : Type 0} (r : Option A) (x : A) → r ≡ None → r ≡ Some x → ⊥
never r x none some = let bad : None ≡ Some x = sym none ∙ some in cc

-- what is found is one
pub one_is : (r : Option ℕ) (a b : ℕ) → r ≡ Some a → r ≡ Some b → a ≡ b
one_is r a b e f = ap (λ (o : Option ℕ). unwrap_or o 0) (sym e ∙ f)

-- a line with no object and no numbers is no reply
pub no_reply : (line : List ℕ) → ((object : List ℕ) → SaysFixed line object → ⊥) → ((m d : ℕ) → HasCounts line m d → ⊥) → IsPlainReply line → ⊥
no_reply line none counts (inl fixed) = none fixed.0 fixed.1
no_reply line none counts (inr has) = counts has.0 has.1 has.2

-- a line is a reply where an object is found or numbers are
pub is_reply : (fixed : Option (Bor (List ℕ))) (found : Option (ℕ × ℕ)) (line : List ℕ)
    → IfSome fixed (λ object. SaysFixed line object.now) → (IsNone fixed → (object : List ℕ) → SaysFixed line object → ⊥)
    → IfSome found (λ counts. HasCounts line counts.0 counts.1) → ((m d : ℕ) → HasCounts line m d → found ≡ Some (m, d))
    → ((IsTrue (is_some fixed || is_some found) → IsPlainReply line) × (IsPlainReply line → IsTrue (is_some fixed || is_some found)))
is_reply (Some object) found line some none counts exact = ((λ _. inl (object.now, some)), (λ _. refl))
is_reply None (Some found) line some none counts exact = ((λ _. inr (found.0, found.1, counts)), (λ _. refl))
is_reply None None line some none counts exact = ((λ e. cc), (λ reply. absurd (no_reply line (none refl) (λ m d has. never None (m, d) refl (exact m d has)) reply)))

-- a member is up where numbers are found
pub is_up : (found : Option (ℕ × ℕ)) (reply : List ℕ) → IfSome found (λ counts. HasCounts reply counts.0 counts.1)
    → ((m d : ℕ) → HasCounts reply m d → found ≡ Some (m, d)) → ((IsTrue (is_some found) → IsUp reply) × (IsUp reply → IsTrue (is_some found)))
is_up (Some found) reply counts exact = ((λ _. (found.0, found.1, counts)), (λ _. refl))
is_up None reply counts exact = ((λ e. cc), (λ up. absurd (never None (up.0, up.1) refl (exact up.0 up.1 up.2))))

-- words that are cut at a space have this number before it, and the rest behind it
pub cut_first : (words word behind : List ℕ) (n : ℕ) (rest : List ℕ) → words ≡ word ++ 32 ∷ behind → NoSpace word → HasFirst words n rest
    → IsCount word n × (behind ≡ rest)
cut_first words word behind n rest cut spaceless has =
    let one = one_cut has.0 word rest behind has.2 spaceless (sym has.1 ∙ cut) in
    (subst (λ (x : List ℕ). IsCount x n) one.0 has.3, sym one.1)

-- words without a space have none
pub no_first : (words : List ℕ) (n : ℕ) (rest : List ℕ) → NoSpace words → HasFirst words n rest → ⊥
no_first words n rest spaceless has = no_cut words has.0 rest spaceless has.1

-- what stands behind `LINKS ` has the numbers of the reply
pub links_behind : (reply words : List ℕ) (links : Links) → reply ≡ codes "LINKS " ++ words → HasLinks reply links → AreFour words links
links_behind reply words links is has =
    let same : has.0 ≡ words = same_tail has.0 words (sym has.1 ∙ is) in
    subst (λ (x : List ℕ). AreFour x links) same has.2
  where
    same_tail : (a b : List ℕ) → codes "LINKS " ++ a ≡ codes "LINKS " ++ b → a ≡ b
    same_tail a b e = cc

-- a reply is of links where links are found
pub is_links : (found : Option Links) (reply : List ℕ) → IfSome found (HasLinks reply)
    → ((links : Links) → HasLinks reply links → found ≡ Some links) → ((IsTrue (is_some found) → IsLinks reply) × (IsLinks reply → IsTrue (is_some found)))
is_links (Some found) reply some exact = ((λ _. (found, some)), (λ _. refl))
is_links None reply some exact = ((λ e. cc), (λ is. absurd (never None is.0 refl (exact is.0 is.1))))

-- what stands behind `EPOCHS ` has the epochs of the reply
pub epochs_behind : (reply words : List ℕ) (epochs : Closing) → reply ≡ codes "EPOCHS " ++ words → HasEpochs reply epochs → AreEpochs words epochs
epochs_behind reply words epochs is has =
    let same : has.0 ≡ words = same_tail has.0 words (sym has.1 ∙ is) in
    subst (λ (x : List ℕ). AreEpochs x epochs) same has.2
  where
    same_tail : (a b : List ℕ) → codes "EPOCHS " ++ a ≡ codes "EPOCHS " ++ b → a ≡ b
    same_tail a b e = cc

-- a reply is of epochs where epochs are found
pub is_epochs : (found : Option Closing) (reply : List ℕ) → IfSome found (HasEpochs reply)
    → ((epochs : Closing) → HasEpochs reply epochs → found ≡ Some epochs) → ((IsTrue (is_some found) → IsEpochs reply) × (IsEpochs reply → IsTrue (is_some found)))
is_epochs (Some found) reply some exact = ((λ _. (found, some)), (λ _. refl))
is_epochs None reply some exact = ((λ e. cc), (λ is. absurd (never None is.0 refl (exact is.0 is.1))))

-- as many come in and go out as are needed
abbrev AreEnough : Links → Type 0
AreEnough links = (links.needed ≤ links.coming) × (links.needed ≤ links.going)

-- a reply of links that are enough, or aren't
pub is_ready : (found : Links) (reply : List ℕ) (r : Bool) → HasLinks reply found → ((links : Links) → HasLinks reply links → Some found ≡ Some links)
    → ((IsTrue r → AreEnough found) × (AreEnough found → IsTrue r)) → ((IsTrue r → IsReady reply) × (IsReady reply → IsTrue r))
is_ready found reply r has exact iff = (
  (λ t. let enough = iff.0 t in (found, has, enough.0, enough.1)),
  (λ ready.
      let same : found ≡ ready.0 = ap (λ (o : Option Links). unwrap_or o found) (exact ready.0 ready.1) in
      iff.1 (subst AreEnough (sym same) (ready.2, ready.3))),
)

-- a reply that isn't of links
pub is_unready : (reply : List ℕ) → ((links : Links) → HasLinks reply links → None ≡ Some links)
    → ((IsTrue false → IsReady reply) × (IsReady reply → IsTrue false))
is_unready reply exact = ((λ e. cc), (λ ready. absurd (never None ready.0 refl (exact ready.0 ready.1))))

-- a line that is no reply of links, and no other
pub no_reply_else : {A E : Type 0} (r : Result (Option A) E) (reply : List ℕ) → ((links : Links) → HasLinks reply links → None ≡ Some links)
    → IfOk r (λ found. IsNone found → IsUnlinked reply → ⊥) → IfOk r (λ found. IsNone found → IsReplyLine reply → ⊥)
no_reply_else (Ok found) reply exact plain = λ none is. go none is
  where
    go : IsNone found → IsReplyLine reply → ⊥
    go none (inl is) = plain none is
    go none (inr is) = never None is.0 refl (exact is.0 is.1)
no_reply_else (Err fault) reply exact plain = tt
