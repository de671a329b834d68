-- A document gives settings or has one fault.
use Rattle.std.proofs.Common.{ℕ, pos, ◌≡◌, refl, sym, ap, ◌∙◌, subst, arith, Option, Some, None, Result, Ok, Err, IfOk, IfErr, List, [], ◌∷◌, ◌++◌, length, ◌⊎◌, inl, inr, option_map, string_bytes, rules}
use Rattle.std.specs.List.{AllByRecursion}
use Rattle.toml.specs.Data.{Data, Members, Items, integer, array, item, no_items}
use Rattle.terms_prelude.specs.Terms.{size_fault, SizeFault}
use Rattle.settings.specs.Words.{Address, Key, Cluster, N, T, Questions, Me, Journal, Peers, Desk, Seed, Listen, DeskSocket, Epochs, Desks, Chain, Settings, SettingsFault, Entries, SaysEntries, FitsEntries, unfit, IsOfFirst, Suits, AllSuit, HasNumber, AreAddresses, HasAddresses, HasNumbers, IsFirstBad, IsBadSize, IsOfMany, IsMisfit, IsFault, IsFaultOf, GivesSettings, IsSettings, keys}
use Rattle.settings.specs.declared.fault.SettingsFault.TheVariants as fault

-- what holds of all holds of the one in the middle
middle : (P : Key → Type 0) (before : List Key) (key : Key) (behind : List Key) → AllByRecursion P (before ++ key ∷ behind) → P key
middle P [] key behind all = all.0
middle P (k ∷ before) key behind all = middle P before key behind all.1

-- where all keys have values of their own, no key is the first without
pub no_first : (all_keys : List Key) (ms : Members) (key : Key) → AllSuit all_keys ms → IsFirstBad all_keys ms key → ⊥
no_first all_keys ms key all bad = bad.bad (middle (Suits ms) bad.before key bad.behind (subst (AllByRecursion (Suits ms)) bad.order all))

-- of a list one is the first that P doesn't hold of
one_first : (P : Key → Type 0) (xs ys cs ds : List Key) (a b : Key) → xs ++ a ∷ cs ≡ ys ++ b ∷ ds
    → AllByRecursion P xs → AllByRecursion P ys → (P a → ⊥) → (P b → ⊥) → a ≡ b
one_first P [] [] cs ds a b e f g m n = cc
one_first P [] (k ∷ ys) cs ds a b e f g m n = let t : k ≡ a = cc in absurd (m (subst P t g.0))
one_first P (k ∷ xs) [] cs ds a b e f g m n = let t : k ≡ b = cc in absurd (n (subst P t f.0))
one_first P (k ∷ xs) (l ∷ ys) cs ds a b e f g m n = let t : xs ++ a ∷ cs ≡ ys ++ b ∷ ds = cc in one_first P xs ys cs ds a b t f.1 g.1 m n

first_same : (all : List Key) (ms : Members) (a b : Key) → IsFirstBad all ms a → IsFirstBad all ms b → a ≡ b
first_same all ms a b x y = one_first (Suits ms) x.before y.before x.behind y.behind a b (sym x.order ∙ y.order) x.good y.good x.bad y.bad

-- a key has one number
pub number_same : (ms : Members) (key : Key) (a b : ℕ) → HasNumber ms key a → HasNumber ms key b → a ≡ b
number_same ms key a b x y =
    let both : ◌≡◌ {A = Option Data} (Some (integer (pos a))) (Some (integer (pos b))) = sym x ∙ y in
    cc

-- the size's fault is one
size_same : (all : List Key) (ms : Members) (n t q m u r : ℕ) → HasNumbers all ms n t q → HasNumbers all ms m u r → size_fault n t q ≡ size_fault m u r
size_same all ms n t q m u r x y =
    let a : n ≡ m = number_same ms N n m x.n_is y.n_is in
    let b : t ≡ u = number_same ms T t u x.t_is y.t_is in
    let c : q ≡ r = number_same ms Questions q r x.questions_is y.questions_is in
    rw (a, b, c) refl

-- numbers of a size make no bad one
pub size_is_good : (all : List Key) (ms : Members) (n : ℕ) (size : SizeFault) → IsOfMany all ms n → IsBadSize all ms size → ⊥
size_is_good all ms n size (t, q, has, none) (m, u, r, others, some) =
    let e : ◌≡◌ {A = Option SizeFault} None (Some size) = sym none ∙ (size_same all ms n t q m u r has others ∙ some) in
    cc

bad_size_same : (all : List Key) (ms : Members) (a b : SizeFault) → IsBadSize all ms a → IsBadSize all ms b → a ≡ b
bad_size_same all ms a b (n, t, q, has, is) (m, u, r, others, other) =
    let e : ◌≡◌ {A = Option SizeFault} (Some a) (Some b) = sym is ∙ (size_same all ms n t q m u r has others ∙ other) in
    cc

many_same : (all : List Key) (ms : Members) (n m : ℕ) → IsOfMany all ms n → IsOfMany all ms m → n ≡ m
many_same all ms n m (t, q, has, none) (u, r, others, other) = number_same ms N n m has.n_is others.n_is

-- the addresses of an array are xs many xs its items
count_same : (items : Items) (xs ys : List Address) → AreAddresses items xs → AreAddresses items ys → length xs ≡ length ys
count_same no_items [] [] x y = refl
count_same no_items [] (b ∷ ys) x y = absurd y
count_same no_items (a ∷ xs) ys x y = absurd x
count_same (item d items) [] ys x y = absurd x
count_same (item d items) (a ∷ xs) [] x y = absurd y
count_same (item d items) (a ∷ xs) (b ∷ ys) x y = let e = count_same items xs ys x.1 y.1 in omega arith

pub addresses_same : (ms : Members) (key : Key) (xs ys : List Address) → HasAddresses ms key xs → HasAddresses ms key ys → length xs ≡ length ys
addresses_same ms key xs ys (items, has, are) (others, had, were) =
    let both : ◌≡◌ {A = Option Data} (Some (array items)) (Some (array others)) = sym has ∙ had in
    let same : others ≡ items = cc in
    count_same items xs ys are (subst (λ (i : Items). AreAddresses i ys) same were)

-- a misfit is of lawful numbers
misfit_many : (ms : Members) (key : Key) → IsMisfit ms key → (n : ℕ) × IsOfMany keys ms n
misfit_many ms Cluster h = absurd h
misfit_many ms N h = absurd h
misfit_many ms T h = absurd h
misfit_many ms Questions h = absurd h
misfit_many ms Me (n, me, many, is, above) = (n, many)
misfit_many ms Journal h = absurd h
misfit_many ms Peers (n, me, peers, many, is, below, are, others) = (n, many)
misfit_many ms Desk h = absurd h
misfit_many ms Seed h = absurd h
misfit_many ms Listen h = absurd h
misfit_many ms DeskSocket h = absurd h
misfit_many ms Epochs h = absurd h
misfit_many ms Desks h = absurd h
misfit_many ms Chain h = absurd h

-- a member that there is not, and one that there is
not_both : (ms : Members) → IsMisfit ms Me → IsMisfit ms Peers → ⊥
not_both ms (n, me, many, is, above) (m, you, peers, others, are, below, addresses, count) =
    let a : n ≡ m = many_same keys ms n m many others in
    let b : me ≡ you = number_same ms Me me you is are in
    omega (arith, above, below)

-- settings fit
fits : (ms : Members) (s : Settings) → GivesSettings ms s → (key : Key) → IsMisfit ms key → ⊥
fits ms s g Cluster h = h
fits ms s g N h = h
fits ms s g T h = h
fits ms s g Questions h = h
fits ms s g Me (n, me, (t, q, has, none), is, above) =
    let a : n ≡ s.header.size.n = number_same ms N n s.header.size.n has.n_is g.n.0 in
    let b : me ≡ s.header.me = number_same ms Me me s.header.me is g.me in
    let c = g.below in
    omega (arith, above, c)
fits ms s g Journal h = h
fits ms s g Peers (n, me, peers, (t, q, has, none), is, below, are, others) =
    let a : n ≡ s.header.size.n = number_same ms N n s.header.size.n has.n_is g.n.0 in
    let b : length peers ≡ length s.peers.items = addresses_same ms Peers peers s.peers.items are g.peers in
    others (b ∙ (g.count ∙ sym a))
fits ms s g Desk h = h
fits ms s g Seed h = h
fits ms s g Listen h = h
fits ms s g DeskSocket h = h
fits ms s g Epochs h = h
fits ms s g Desks h = h
fits ms s g Chain h = h

-- two misfits are one
misfit_same : (ms : Members) (a b : Key) → IsMisfit ms a → IsMisfit ms b → a ≡ b
misfit_same ms Cluster b x y = absurd x
misfit_same ms N b x y = absurd x
misfit_same ms T b x y = absurd x
misfit_same ms Questions b x y = absurd x
misfit_same ms Journal b x y = absurd x
misfit_same ms Desk b x y = absurd x
misfit_same ms Seed b x y = absurd x
misfit_same ms Listen b x y = absurd x
misfit_same ms DeskSocket b x y = absurd x
misfit_same ms Epochs b x y = absurd x
misfit_same ms Desks b x y = absurd x
misfit_same ms Chain b x y = absurd x
misfit_same ms Me b x y = of_me b y
  where
    of_me : (b : Key) → IsMisfit ms b → Me ≡ b
    of_me Cluster z = absurd z
    of_me N z = absurd z
    of_me T z = absurd z
    of_me Questions z = absurd z
    of_me Me z = refl
    of_me Journal z = absurd z
    of_me Peers z = absurd (not_both ms x z)
    of_me Desk z = absurd z
    of_me Seed z = absurd z
    of_me Listen z = absurd z
    of_me DeskSocket z = absurd z
    of_me Epochs z = absurd z
    of_me Desks z = absurd z
    of_me Chain z = absurd z
misfit_same ms Peers b x y = of_peers b y
  where
    of_peers : (b : Key) → IsMisfit ms b → Peers ≡ b
    of_peers Cluster z = absurd z
    of_peers N z = absurd z
    of_peers T z = absurd z
    of_peers Questions z = absurd z
    of_peers Me z = absurd (not_both ms z x)
    of_peers Journal z = absurd z
    of_peers Peers z = refl
    of_peers Desk z = absurd z
    of_peers Seed z = absurd z
    of_peers Listen z = absurd z
    of_peers DeskSocket z = absurd z
    of_peers Epochs z = absurd z
    of_peers Desks z = absurd z
    of_peers Chain z = absurd z

-- so are all of these
abbrev IsOfSizes : List Key → (Members → Key → Type 0) → Type 0
IsOfSizes all Misfit = (ms : Members) (key : Key) → Misfit ms key → (n : ℕ) × IsOfMany all ms n

-- two of these are one
abbrev AreOne : (Members → Key → Type 0) → Type 0
AreOne Misfit = (ms : Members) (a b : Key) → Misfit ms a → Misfit ms b → a ≡ b

-- all keys of a misfit have values of their own
misfit_suits : (all : List Key) (Misfit : Members → Key → Type 0) → IsOfSizes all Misfit → (ms : Members) (key : Key) → Misfit ms key → AllSuit all ms
misfit_suits all Misfit many ms key h = let r = many ms key h in r.1.2.suit

-- a table has one fault at most
one_fault : (all : List Key) (Misfit : Members → Key → Type 0) → IsOfSizes all Misfit → AreOne Misfit
    → (doc : Option Members) (a b : SettingsFault) → IsFaultOf all Misfit doc a → IsFaultOf all Misfit doc b → a ≡ b
one_fault all M many one None fault.Text fault.Text x y = refl
one_fault all M many one None fault.Text (fault.Key b) x y = absurd y
one_fault all M many one None fault.Text (fault.Size b) x y = absurd y
one_fault all M many one None fault.Text fault.Memory x y = absurd y
one_fault all M many one None (fault.Key a) b x y = absurd x
one_fault all M many one None (fault.Size a) b x y = absurd x
one_fault all M many one None fault.Memory b x y = absurd x
one_fault all M many one (Some ms) fault.Text b x y = absurd x
one_fault all M many one (Some ms) fault.Memory b x y = absurd x
one_fault all M many one (Some ms) (fault.Key a) fault.Text x y = absurd y
one_fault all M many one (Some ms) (fault.Key a) fault.Memory x y = absurd y
one_fault all M many one (Some ms) (fault.Size a) fault.Text x y = absurd y
one_fault all M many one (Some ms) (fault.Size a) fault.Memory x y = absurd y
one_fault all M many one (Some ms) (fault.Size a) (fault.Size b) x y = ap fault.Size (bad_size_same all ms a b x y)
one_fault all M many one (Some ms) (fault.Size a) (fault.Key b) x (inl y) = absurd (no_first all ms b x.3.suit y)
one_fault all M many one (Some ms) (fault.Size a) (fault.Key b) x (inr y) = let m = many ms b y in absurd (size_is_good all ms m.0 a m.1 x)
one_fault all M many one (Some ms) (fault.Key a) (fault.Size b) (inl x) y = absurd (no_first all ms a y.3.suit x)
one_fault all M many one (Some ms) (fault.Key a) (fault.Size b) (inr x) y = let m = many ms a x in absurd (size_is_good all ms m.0 b m.1 y)
one_fault all M many one (Some ms) (fault.Key a) (fault.Key b) (inl x) (inl y) = ap fault.Key (first_same all ms a b x y)
one_fault all M many one (Some ms) (fault.Key a) (fault.Key b) (inl x) (inr y) = absurd (no_first all ms a (misfit_suits all M many ms b y) x)
one_fault all M many one (Some ms) (fault.Key a) (fault.Key b) (inr x) (inl y) = absurd (no_first all ms b (misfit_suits all M many ms a x) y)
one_fault all M many one (Some ms) (fault.Key a) (fault.Key b) (inr x) (inr y) = ap fault.Key (one ms a b x y)

-- at a fault that was answered the answer is the fault that there is, but for memory
pub at_fault : {E : Type 0} (all : List Key) (Misfit : Members → Key → Type 0) → IsOfSizes all Misfit → AreOne Misfit
    → (doc : Option Members) (r : Result E SettingsFault) (f : SettingsFault) → r ≡ Err f → IsFaultOf all Misfit doc f ⊎ (f ≡ fault.Memory)
    → (ends : SettingsFault) → IsFaultOf all Misfit doc ends → (r ≡ Err ends) ⊎ (r ≡ Err fault.Memory)
at_fault all M many one doc r f is (inl x) ends y = inl (is ∙ ap Err (one_fault all M many one doc f ends x y))
at_fault all M many one doc r f is (inr memory) ends y = inr (is ∙ ap Err memory)

-- a text that is no TOML
pub of_text : (all : List Key) (Misfit : Members → Key → Type 0) (doc : Option Members) (f : SettingsFault)
    → ((f ≡ fault.Text) × (doc ≡ None)) ⊎ (f ≡ fault.Memory) → IsFaultOf all Misfit doc f ⊎ (f ≡ fault.Memory)
of_text all M doc f (inl x) = inl (subst (λ (d : Option Members). IsFaultOf all M d f) (sym x.1) (subst (IsFaultOf all M None) (sym x.0) tt))
of_text all M doc f (inr x) = inr x

-- the first key without a value of its own
pub of_key : (all : List Key) (Misfit : Members → Key → Type 0) (doc : Option Members) (ms : Members) (f : SettingsFault)
    → doc ≡ Some ms → IsOfFirst all ms f → IsFaultOf all Misfit doc f ⊎ (f ≡ fault.Memory)
of_key all M doc ms f is (inl (key, names, bad)) =
    inl (subst (λ (d : Option Members). IsFaultOf all M d f) (sym is) (subst (IsFaultOf all M (Some ms)) (sym names) (inl bad)))
of_key all M doc ms f is (inr x) = inr x

-- settings have all keys
gives_suits : (ms : Members) (s : Settings) → GivesSettings ms s → AllSuit keys ms
gives_suits ms s g = (
  (s.header.cluster, g.cluster),
  (
    (s.header.size.n, g.n),
    (
      (s.header.size.t, g.t),
      (
        (s.header.size.questions, g.questions),
        (
          (s.header.me, g.me),
          (
            (string_bytes s.journal, g.journal),
            (
              (s.peers.items, g.peers),
              (
                (s.desk, g.desk),
                ((s.seed, g.seed), ((s.listen, g.listen), ((option_map string_bytes s.desk_socket, g.desk_socket), ((option_map string_bytes s.epochs, g.epochs), tt)))),
              ),
            ),
          ),
        ),
      ),
    ),
  ),
)

-- a table that gives settings has no fault
no_fault : (doc : Option Members) (s : Settings) (ends : SettingsFault) → IsSettings doc s → IsFault doc ends → ⊥
no_fault None s ends g x = g
no_fault (Some ms) s fault.Text g x = x
no_fault (Some ms) s fault.Memory g x = x
no_fault (Some ms) s (fault.Key key) g (inl x) = no_first keys ms key (gives_suits ms s g) x
no_fault (Some ms) s (fault.Key key) g (inr x) = fits ms s g key x
no_fault (Some ms) s (fault.Size size) g x = size_is_good keys ms s.header.size.n size (s.header.size.t, s.header.size.questions, has, g.lawful) x
  where
    has : HasNumbers keys ms s.header.size.n s.header.size.t s.header.size.questions
    has = record { suit = gives_suits ms s g; n_is = g.n.0; t_is = g.t.0; questions_is = g.questions.0 }

-- the answer is the fault that there is, but for memory
pub exactly : (doc : Option Members) (r : Result Settings SettingsFault) → IfOk r (IsSettings doc) → IfErr r (λ ends. IsFault doc ends ⊎ (ends ≡ fault.Memory))
    → (ends : SettingsFault) → IsFault doc ends → (r ≡ Err ends) ⊎ (r ≡ Err fault.Memory)
exactly doc (Ok s) ok err ends x = absurd (no_fault doc s ends ok x)
exactly doc (Err other) ok err ends x = at_fault keys IsMisfit misfit_many misfit_same doc (Err other) other refl err ends x

-- the same of a member's
pub at_settings_fault : (doc : Option Members) (r : Result Settings SettingsFault) (f : SettingsFault) → r ≡ Err f → IsFault doc f ⊎ (f ≡ fault.Memory)
    → (ends : SettingsFault) → IsFault doc ends → (r ≡ Err ends) ⊎ (r ≡ Err fault.Memory)
at_settings_fault doc r f is was ends y = at_fault keys IsMisfit misfit_many misfit_same doc r f is was ends y

gives : (ms : Members) (e : Entries) (s : Settings) → SaysEntries ms e → FitsEntries e s → unfit e ≡ None → GivesSettings ms s
gives ms e s says fit none = search rules

-- the settings of entries that fit
pub of_entries : (doc : Option Members) (ms : Members) (e : Entries) (r : Result Settings SettingsFault) → doc ≡ Some ms → SaysEntries ms e
    → IfOk r (λ s. FitsEntries e s × (unfit e ≡ None)) → IfOk r (IsSettings doc)
of_entries doc ms e (Ok s) is says h = subst (λ (d : Option Members). IsSettings d s) (sym is) (gives ms e s says h.0 h.1)
of_entries doc ms e (Err f) is says h = tt
