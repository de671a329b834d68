-- Values found in a table, and addresses of arrays.
use Rattle.std.proofs.Common.{ℕ, zero, suc, ◌≡◌, ◌+◌, ◌<◌, refl, sym, ap, ◌∙◌, subst, arith, Option, Some, None, MatchOption, option_map, Result, IfErr, List, [], ◌∷◌, ◌++◌, length, get_or, take, Bor}
use Rattle.std.proofs.Math.Seq.{take-suc}
use Rattle.std.specs.Option.{ok_or}
use Rattle.toml.specs.Data.{Data, Members, string, get_member}
use Rattle.toml.specs.View.{view, items_view}
use Rattle.toml.specs.declared.value.Value.{Value}
use Rattle.settings.specs.Words.{Address, Key, SettingsFault, key_text, IsAddress, IsAddressText, AreAddresses, HasAddress, IsLack}
use Rattle.settings.specs.declared.fault.SettingsFault.TheVariants as fault

-- what a look-up found
pub found : (r : Option (Bor Value)) (d : Option Data) → option_map (λ x. view x.now) r ≡ d → MatchOption r (d ≡ None) (λ v. d ≡ Some (view v.now))
found None d e = sym e
found (Some v) d e = sym e

-- one more address at the end
pub addresses-snoc : (vs : List Value) (known : List Address) (v : Value) (a : Address) → AreAddresses (items_view vs) known → IsAddressText (view v) a
    → AreAddresses (items_view (vs ++ v ∷ [])) (known ++ a ∷ [])
addresses-snoc [] [] v a h one = (one, tt)
addresses-snoc [] (b ∷ known) v a h one = absurd h
addresses-snoc (w ∷ vs) [] v a h one = absurd h
addresses-snoc (w ∷ vs) (b ∷ known) v a h one = (h.0, addresses-snoc vs known v a h.1 one)

-- one turn of the loop over the values
pub addresses_turn : (vs : List Value) (known : List Address) (i : ℕ) (v : Value) (a : Address) → v ≡ get_or vs i v → i < length vs
    → AreAddresses (items_view (take i vs)) known → IsAddressText (view v) a → AreAddresses (items_view (take (i + 1) vs)) (known ++ a ∷ [])
addresses_turn vs known i v a at within h one =
    let e : suc i ≡ i + 1 = omega arith in
    let more : take (i + 1) vs ≡ take i vs ++ v ∷ [] =
    subst (λ k. take k vs ≡ take i vs ++ v ∷ []) e (take-suc vs i v within ∙ ap (λ (x : Value). take i vs ++ x ∷ []) (sym at)) in
    subst (λ (l : List Value). AreAddresses (items_view l) (known ++ a ∷ [])) (sym more) (addresses-snoc (take i vs) known v a h one)

-- a value that is no address is in no array of addresses
pub no_addresses : (vs : List Value) (known : List Address) (i : ℕ) (v : Value) → v ≡ get_or vs i v → i < length vs
    → ((a : Address) → IsAddressText (view v) a → ⊥) → AreAddresses (items_view vs) known → ⊥
no_addresses [] known i v at within none h = omega arith
no_addresses (w ∷ vs) [] i v at within none h = h
no_addresses (w ∷ vs) (b ∷ known) zero v at within none h = none b (subst (λ (x : Value). IsAddressText (view x) b) (sym at) h.0)
no_addresses (w ∷ vs) (b ∷ known) (suc i) v at within none h = no_addresses vs known i v at (omega arith) none h.1

-- where the key's text names no address the key has none
pub no_address : (ms : Members) (key : Key) (text : List ℕ) (p : Option Address) (r : Result Address SettingsFault)
    → get_member (key_text key) ms ≡ Some (string text) → ((a : Address) → IsAddress text a → p ≡ Some a) → r ≡ ok_or p (fault.Key key)
    → IfErr r (IsLack key (HasAddress ms key))
no_address ms key text None r has exact e = subst (λ (x : Result Address SettingsFault). IfErr x (IsLack key (HasAddress ms key))) (sym e) (refl, none)
  where
    none : (a : Address) → HasAddress ms key a → ⊥
    none a h =
        let both : ◌≡◌ {A = Option Data} (Some (string text)) (Some (string h.0)) = sym has ∙ h.1 in
        let same : h.0 ≡ text = cc in
        let there : ◌≡◌ {A = Option Address} None (Some a) = exact a (subst (λ t. IsAddress t a) same h.2) in
        cc
no_address ms key text (Some a) r has exact e = subst (λ (x : Result Address SettingsFault). IfErr x (IsLack key (HasAddress ms key))) (sym e) tt
