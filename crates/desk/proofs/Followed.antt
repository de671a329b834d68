-- What a follower was told, and one line more.
use Rattle.std.proofs.Common.{◌≡◌, ◌∙◌, ℕ, ◌+◌, sym, ap, subst, Option, Some, None, List, [], ◌∷◌, ◌++◌, append_assoc, append-nil}
use Rattle.std.proofs.lemmas.Grind.{flat_map-append}
use Rattle.numerals.specs.Lines.{line}
use Rattle.node.specs.declared.order.Decision.{Decision}
use Rattle.desk.specs.Following.{AreNumbered, FollowerView, Tells, decision_text, told_text, told_texts}

texts_more : (told : List (Option Decision)) (x : Option Decision) → told_texts (told ++ x ∷ []) ≡ told_texts told ++ line (told_text x)
texts_more told x =
    flat_map-append (λ (y : Option Decision). line (told_text y)) told (x ∷ []) ∙ ap (λ (l : List ℕ). told_texts told ++ l) (append-nil (line (told_text x)))

-- a line more is owed
owed_more : (old now owed more : List ℕ) (told : List (Option Decision)) (x : Option Decision) → now ++ owed ≡ old ++ told_texts told
    → more ≡ owed ++ line (told_text x) → now ++ more ≡ old ++ told_texts (told ++ x ∷ [])
owed_more old now owed more told x wrote is =
    ap (λ (l : List ℕ). now ++ l) is ∙ sym (append_assoc now owed (line (told_text x)))
    ∙ ap (λ (l : List ℕ). l ++ line (told_text x)) wrote ∙ append_assoc old (told_texts told) (line (told_text x))
    ∙ ap (λ (l : List ℕ). old ++ l) (sym (texts_more told x))

module _ (HasNumber : ℕ → Decision → Type 0) where
  decision_more : (from to : ℕ) (told : List (Option Decision)) (d : Decision) → AreNumbered HasNumber from told to → HasNumber to d
      → AreNumbered HasNumber from (told ++ Some d ∷ []) (to + 1)
  decision_more from to [] d is has = (subst (λ (n : ℕ). HasNumber n d) (sym is) has, ap (λ (n : ℕ). n + 1) is)
  decision_more from to (None ∷ told) d are has = decision_more from to told d are has
  decision_more from to (Some e ∷ told) d are has = (are.0, decision_more (from + 1) to told d are.1 has)

  blank_more : (from to : ℕ) (told : List (Option Decision)) → AreNumbered HasNumber from told to → AreNumbered HasNumber from (told ++ None ∷ []) to
  blank_more from to [] is = is
  blank_more from to (None ∷ told) are = blank_more from to told are
  blank_more from to (Some e ∷ told) are = (are.0, blank_more (from + 1) to told are.1)

  -- a decision more is owed
  pub owes_decision : (from : ℕ) (old now : List ℕ) (before after : FollowerView) (d : Decision) → Tells HasNumber from old before now → HasNumber before.next d
      → after.next ≡ before.next + 1 → after.owed ≡ before.owed ++ line (decision_text d) → Tells HasNumber from old after now
  owes_decision from old now before after d t has next owed = record {
    told = t.told ++ Some d ∷ [];
    numbered = subst (λ (n : ℕ). AreNumbered HasNumber from (t.told ++ Some d ∷ []) n) (sym next) (decision_more from before.next t.told d t.numbered has);
    wrote = owed_more old now before.owed after.owed t.told (Some d) t.wrote owed;
  }

  -- an empty line more is owed
  pub owes_blank : (from : ℕ) (old now : List ℕ) (before after : FollowerView) → Tells HasNumber from old before now
      → after.next ≡ before.next → after.owed ≡ before.owed ++ 10 ∷ [] → Tells HasNumber from old after now
  owes_blank from old now before after t next owed = record {
    told = t.told ++ None ∷ [];
    numbered = subst (λ (n : ℕ). AreNumbered HasNumber from (t.told ++ None ∷ []) n) (sym next) (blank_more from before.next t.told t.numbered);
    wrote = owed_more old now before.owed after.owed t.told None t.wrote owed;
  }
