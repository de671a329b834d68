use Rattle.std.proofs.Common.{◌≡◌, ℕ, List, [], ◌∷◌, codes, Option, Some, None, IfSome, subst, sym, ap, ◌∙◌, inl, inr}
use Rattle.std.proofs.lemmas.Slice.Eq.{bytes_eq-Decides}
use Rattle.settings.specs.Addresses.{IsHost, AreDotted}
use Rattle.settings.proofs.Marks.{localhost_is_not_dotted}
use Rattle.settings.proofs.address.octets.Goals as goal

pub returns-then-eq-clause-exact : goal.returns-then-eq-clause-exact
returns-then-eq-clause-exact c = λ octets is.
    only octets ((bytes_eq-Decides c.args.host.now (codes "localhost")).0 (sym c.if-eq.ensures)) is
  where
    only : (octets : List ℕ) → c.args.host.now ≡ codes "localhost" → IsHost c.args.host.now octets → ◌≡◌ {A = Option (List ℕ)} (Some (127 ∷ 0 ∷ 0 ∷ 1 ∷ [])) (Some octets)
    only octets same (inl h) = ap Some (sym h.1)
    only octets same (inr h) = absurd (localhost_is_not_dotted h.0 h.1 h.2 h.3 (subst (λ t. AreDotted t (h.0 ∷ h.1 ∷ h.2 ∷ h.3 ∷ [])) same h.5))

pub returns-else-eq-clause-some : goal.returns-else-eq-clause-some
returns-else-eq-clause-some c = host_of c.dotted.result c.dotted.ensures.some c.dotted.ensures.four
  where
    host_of : (r : Option (List ℕ)) → IfSome r (AreDotted c.args.host.now)
        → IfSome r (λ octets. (x : ℕ) × (y : ℕ) × (z : ℕ) × (w : ℕ) × (octets ≡ x ∷ y ∷ z ∷ w ∷ [])) → IfSome r (IsHost c.args.host.now)
    host_of None some four = tt
    host_of (Some octets) some four = inr (four.0, four.1, four.2, four.3, four.4, subst (AreDotted c.args.host.now) four.4 some)

pub returns-else-eq-clause-exact : goal.returns-else-eq-clause-exact
returns-else-eq-clause-exact c = λ octets is. only octets is
  where
    only : (octets : List ℕ) → IsHost c.args.host.now octets → c.dotted.result ≡ Some octets
    only octets (inl h) =
        let yes = (bytes_eq-Decides c.args.host.now (codes "localhost")).1 h.0 in
        let no = c.if-eq.ensures in
        absurd (cc)
    only octets (inr h) = c.dotted.ensures.exact h.0 h.1 h.2 h.3 h.5 ∙ ap Some (sym h.4)
