-- A text names one address at most.
use Rattle.std.proofs.Common.{ℕ, ◌≡◌, refl, sym, ap, ◌∙◌, subst, List, [], ◌∷◌, ◌++◌, codes, inl, inr}
use Rattle.toml.specs.Data.{Data, Items, Members, array, item, no_items, string}
use Rattle.settings.specs.Words.{Address, AreDotted, HasAddresses, IsAddress, IsHost, IsOctet, Key, LacksMark}
use Rattle.settings.specs.Addresses.{IsPort}
use Rattle.settings.specs.Settings.{AreAddresses, IsAddressText}
use Rattle.settings.proofs.Marks.{host_lacks_colon, localhost_is_not_dotted, octet_lacks_point}

-- a text is cut at its first mark in one way
cut_once : (mark : ℕ) (front behind other rest : List ℕ) → LacksMark mark front → LacksMark mark other
    → front ++ mark ∷ behind ≡ other ++ mark ∷ rest → (front ≡ other) × (behind ≡ rest)
cut_once mark [] behind [] rest lacks none e = (refl, cc)
cut_once mark [] behind (c ∷ cs) rest lacks none e = let same : mark ≡ c = cc in absurd (none.0 (sym same))
cut_once mark (c ∷ cs) behind [] rest lacks none e = let same : c ≡ mark = cc in absurd (lacks.0 same)
cut_once mark (c ∷ cs) behind (d ∷ ds) rest lacks none e =
    let head : c ≡ d = cc in
    let tail : cs ++ mark ∷ behind ≡ ds ++ mark ∷ rest = cc in
    let both = cut_once mark cs behind ds rest lacks.1 none.1 tail in
    (rw (head, both.0) refl, both.1)

octet_same : (digits : List ℕ) (a b : ℕ) → IsOctet digits a → IsOctet digits b → a ≡ b
octet_same digits a b x y = sym x.number_is.value ∙ y.number_is.value

port_same : (digits : List ℕ) (a b : ℕ) → IsPort digits a → IsPort digits b → a ≡ b
port_same digits a b x y = sym x.number.number_is.value ∙ y.number.number_is.value

-- the octet before a point, and what stands behind it
octet_once : (text digits rest others more : List ℕ) (a b : ℕ) → text ≡ digits ++ 46 ∷ rest → IsOctet digits a
    → text ≡ others ++ 46 ∷ more → IsOctet others b → (a ≡ b) × (rest ≡ more)
octet_once text digits rest others more a b is x was y =
    let both = cut_once 46 digits rest others more (octet_lacks_point digits a x) (octet_lacks_point others b y) (sym is ∙ was) in
    (octet_same digits a b x (subst (λ ds. IsOctet ds b) (sym both.0) y), both.1)

dotted_same : (text : List ℕ) (a b c d p q r s : ℕ) → AreDotted text (a ∷ b ∷ c ∷ d ∷ []) → AreDotted text (p ∷ q ∷ r ∷ s ∷ [])
    → (a ∷ b ∷ c ∷ d ∷ []) ≡ (p ∷ q ∷ r ∷ s ∷ [])
dotted_same text a b c d p q r s (ds, rest, is, x, (es, more, are, y, (fs, last, ends, z, w)))
    (gs, others, was, x2, (hs, many, were, y2, (js, final, ended, z2, w2))) =
    let one = octet_once text ds rest gs others a p is x was x2 in
    let two = octet_once rest es more hs many b q are y (one.1 ∙ were) y2 in
    let three = octet_once more fs last js final c r ends z (two.1 ∙ ended) z2 in
    let four = octet_same last d s w (subst (λ t. IsOctet t s) (sym three.1) w2) in
    rw (one.0, two.0, three.0, four) refl

host_same : (text xs ys : List ℕ) → IsHost text xs → IsHost text ys → xs ≡ ys
host_same text xs ys (inl (is, x)) (inl (was, y)) = x ∙ sym y
host_same text xs ys (inl (is, x)) (inr (p, q, r, s, y, are)) =
    absurd (localhost_is_not_dotted p q r s (subst (λ t. AreDotted t (p ∷ q ∷ r ∷ s ∷ [])) is are))
host_same text xs ys (inr (a, b, c, d, x, are)) (inl (was, y)) =
    absurd (localhost_is_not_dotted a b c d (subst (λ t. AreDotted t (a ∷ b ∷ c ∷ d ∷ [])) was are))
host_same text xs ys (inr (a, b, c, d, x, are)) (inr (p, q, r, s, y, were)) =
    x ∙ (dotted_same text a b c d p q r s are were ∙ sym y)

address_same : (text : List ℕ) (a b : Address) → IsAddress text a → IsAddress text b → a ≡ b
address_same text a b x y =
    let cut = cut_once 58 x.host x.port y.host y.port (host_lacks_colon x.host a.octets x.host_is)
    (host_lacks_colon y.host b.octets y.host_is) (sym x.whole ∙ y.whole) in
    let hosts : a.octets ≡ b.octets = host_same x.host a.octets b.octets x.host_is
    (subst (λ h. IsHost h b.octets) (sym cut.0) y.host_is) in
    let ports : a.port ≡ b.port = port_same x.port a.port b.port x.port_is
    (subst (λ p. IsPort p b.port) (sym cut.1) y.port_is) in
    λ i. record { octets = hosts i; port = ports i }

text_same : (value : Data) (a b : Address) → IsAddressText value a → IsAddressText value b → a ≡ b
text_same value a b (text, is, x) (other, was, y) =
    let same : other ≡ text = cc in
    address_same text a b x (subst (λ t. IsAddress t b) same y)

items_same : (items : Items) (xs ys : List Address) → AreAddresses items xs → AreAddresses items ys → xs ≡ ys
items_same no_items [] [] x y = refl
items_same no_items [] (b ∷ ys) x y = absurd y
items_same no_items (a ∷ xs) ys x y = absurd x
items_same (item d items) [] ys x y = absurd x
items_same (item d items) (a ∷ xs) [] x y = absurd y
items_same (item d items) (a ∷ xs) (b ∷ ys) x y =
    let head : a ≡ b = text_same d a b x.0 y.0 in
    let tail : xs ≡ ys = items_same items xs ys x.1 y.1 in
    rw (head, tail) refl

-- so a key has one list of addresses at most
pub list_same : (ms : Members) (key : Key) (xs ys : List Address) → HasAddresses ms key xs → HasAddresses ms key ys → xs ≡ ys
list_same ms key xs ys (items, has, are) (others, had, were) =
    let same : others ≡ items = cc in
    items_same items xs ys are (subst (λ (i : Items). AreAddresses i ys) same were)
