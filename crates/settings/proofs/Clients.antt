-- A document gives a client's settings or has one fault.
use Rattle.std.proofs.Common.{ℕ, ◌≡◌, refl, sym, ap, ◌∙◌, subst, Bool, true, false, cond, ◌==◌, Option, Some, None, Result, Ok, Err, IfOk, IfErr, List, length, ◌⊎◌, inl, inr, rules, eq-eqb, not, true≢false, ◌&&◌}
use Rattle.std.proofs.lemmas.Bool.{and_from, and_parts}
use Rattle.std.proofs.lemmas.Bool.Decides.{Decides-eqb}
use Rattle.toml.specs.Data.{Members}
use Rattle.terms_prelude.specs.Terms.{Size, size_fault, SizeFault}
use Rattle.settings.specs.Words.{Address, Chain, ClientEntries, ClientSettings, Cluster, Desks, FitsClientEntries, GivesClients, HasAddresses, HasNumber, HasNumbers, IsClientFault, IsClientMisfit, IsClientSettings, IsOfMany, Key, MayHaveFlag, N, Questions, SaysClientEntries, SettingsFault, T, AllSuit, client_keys, size_or, unfit_client}
use Rattle.settings.specs.Clients.{AreDesksOf, IsLikeClient, IsUnwrittenClient, are_desks_of, desks_misfit, stands_twice}
use Rattle.settings.specs.Settings.{HasSmall}
use Rattle.settings.specs.declared.fault.SettingsFault.TheVariants as fault
use Rattle.settings.proofs.Addressing.{list_same}
use Rattle.settings.proofs.Single.{at_fault, no_first, number_same, size_is_good}

all_client_suit : (ms : Members) (e : ClientEntries) → SaysClientEntries ms e → AllSuit client_keys ms
all_client_suit ms e says = (
  (e.cluster, says.cluster),
  ((e.n, says.n), ((e.t, says.t), ((e.questions, says.questions), ((e.desks.items, says.desks), ((e.chain, says.chain), tt))))),
)

numbers : (ms : Members) (e : ClientEntries) → SaysClientEntries ms e → HasNumbers client_keys ms e.n e.t e.questions
numbers ms e says = record { suit = all_client_suit ms e says; n_is = says.n.0; t_is = says.t.0; questions_is = says.questions.0 }

-- desks that the test refuses aren't n different ones, and those that it takes are
no_desks : (n : ℕ) (desks : List Address) → are_desks_of n desks ≡ false → AreDesksOf n desks → ⊥
no_desks n desks refused are =
    let yes = and_from (length desks == n) (not (stands_twice desks)) (eq-eqb (length desks) n are.0) (ap not are.1) in
    true≢false (sym yes ∙ refused)

desks_are : (n : ℕ) (desks : List Address) → desks_misfit n desks ≡ None → AreDesksOf n desks
desks_are n desks none = go (are_desks_of n desks) refl none
  where
    un_not : (b : Bool) → not b ≡ true → b ≡ false
    un_not true e = cc
    un_not false e = refl

    go : (b : Bool) → are_desks_of n desks ≡ b → cond b None (Some (fault.Key Desks)) ≡ None → AreDesksOf n desks
    go false p g = cc
    go true p g =
        let parts = and_parts (length desks == n) (not (stands_twice desks)) p in
        ((Decides-eqb (length desks) n).0 parts.0, un_not (stands_twice desks) parts.1)

-- entries that fit have a size, and desks of it
size_is : (e : ClientEntries) → unfit_client e ≡ None → (size_fault e.n e.t e.questions ≡ None) × AreDesksOf e.n e.desks.items
size_is e none = go (size_fault e.n e.t e.questions) refl none
  where
    go : (o : Option SizeFault) → size_fault e.n e.t e.questions ≡ o → size_or o (desks_misfit e.n e.desks.items) ≡ None
        → (size_fault e.n e.t e.questions ≡ None) × AreDesksOf e.n e.desks.items
    go (Some size) p g = cc
    go None p g = (p, desks_are e.n e.desks.items g)

-- what is wrong with entries is a fault of the document
unfit_fault : (ms : Members) (e : ClientEntries) (ends : SettingsFault) → SaysClientEntries ms e → unfit_client e ≡ Some ends → IsClientFault (Some ms) ends
unfit_fault ms e ends says h = by_size (size_fault e.n e.t e.questions) refl h
  where
    by_desks : (b : Bool) → are_desks_of e.n e.desks.items ≡ b → size_fault e.n e.t e.questions ≡ None
        → cond b None (Some (fault.Key Desks)) ≡ Some ends → IsClientFault (Some ms) ends
    by_desks true p none g = cc
    by_desks false p none g =
        let is : fault.Key Desks ≡ ends = cc in
        subst (IsClientFault (Some ms)) is (inr (
          refl,
          e.n,
          e.desks.items,
          (e.t, e.questions, numbers ms e says, none),
          says.desks,
          no_desks e.n e.desks.items p,
        ))

    by_size : (o : Option SizeFault) → size_fault e.n e.t e.questions ≡ o → size_or o (desks_misfit e.n e.desks.items) ≡ Some ends → IsClientFault (Some ms) ends
    by_size (Some size) p g =
        let is : fault.Size size ≡ ends = cc in
        subst (IsClientFault (Some ms)) is (e.n, e.t, e.questions, numbers ms e says, p)
    by_size None p g = by_desks (are_desks_of e.n e.desks.items) refl p g

-- so is the answer
pub unfit_client_answer : (ms : Members) (doc : Option Members) (e : ClientEntries) (r : Result ClientSettings SettingsFault) → doc ≡ Some ms → SaysClientEntries ms e
    → IfErr r (λ ends. unfit_client e ≡ Some ends) → IfErr r (λ ends. IsClientFault doc ends ⊎ (ends ≡ fault.Memory))
unfit_client_answer ms doc e (Ok s) is says h = tt
unfit_client_answer ms doc e (Err ends) is says h = inl (subst (λ (d : Option Members). IsClientFault d ends) (sym is) (unfit_fault ms e ends says h))

-- a misfit is of lawful numbers, and there is one
misfit_many : (ms : Members) (key : Key) → IsClientMisfit ms key → (n : ℕ) × IsOfMany client_keys ms n
misfit_many ms key (is, n, desks, many, are, others) = (n, many)

misfit_same : (ms : Members) (a b : Key) → IsClientMisfit ms a → IsClientMisfit ms b → a ≡ b
misfit_same ms a b x y = x.0 ∙ sym y.0

-- settings have all keys
gives_suits : (ms : Members) (s : ClientSettings) → GivesClients ms s → AllSuit client_keys ms
gives_suits ms s g = (
  (s.cluster, g.cluster),
  ((s.size.n, g.n), ((s.size.t, g.t), ((s.size.questions, g.questions), ((s.desks.items, g.desks), ((s.chain, g.chain), tt))))),
)

-- settings fit
fits : (ms : Members) (s : ClientSettings) (key : Key) → GivesClients ms s → IsClientMisfit ms key → ⊥
fits ms s key g (is, n, desks, (t, q, has, none), are, others) =
    let a : n ≡ s.size.n = number_same ms N n s.size.n has.n_is g.n.0 in
    let b : desks ≡ s.desks.items = list_same ms Desks desks s.desks.items are g.desks in
    others (ap length b ∙ (g.count ∙ sym a), ap stands_twice b ∙ g.apart)

-- a table that gives settings has no fault
no_fault : (doc : Option Members) (s : ClientSettings) (ends : SettingsFault) → IsClientSettings doc s → IsClientFault doc ends → ⊥
no_fault None s ends g x = g
no_fault (Some ms) s fault.Text g x = x
no_fault (Some ms) s fault.Memory g x = x
no_fault (Some ms) s (fault.Key key) g (inl x) = no_first client_keys ms key (gives_suits ms s g) x
no_fault (Some ms) s (fault.Key key) g (inr x) = fits ms s key g x
no_fault (Some ms) s (fault.Size size) g x = size_is_good client_keys ms s.size.n size (s.size.t, s.size.questions, has, g.lawful) x
  where
    has : HasNumbers client_keys ms s.size.n s.size.t s.size.questions
    has = record { suit = gives_suits ms s g; n_is = g.n.0; t_is = g.t.0; questions_is = g.questions.0 }

-- at a fault that was answered the answer is the fault that there is, but for memory
pub at_client_fault : (doc : Option Members) (r : Result ClientSettings SettingsFault) (f : SettingsFault) → r ≡ Err f → IsClientFault doc f ⊎ (f ≡ fault.Memory)
    → (ends : SettingsFault) → IsClientFault doc ends → (r ≡ Err ends) ⊎ (r ≡ Err fault.Memory)
at_client_fault doc r f is was ends y = at_fault client_keys IsClientMisfit misfit_many misfit_same doc r f is was ends y

-- so at each
pub client_exactly : (doc : Option Members) (r : Result ClientSettings SettingsFault) → IfOk r (IsClientSettings doc) → IfErr r (λ ends. IsClientFault doc ends ⊎ (ends ≡ fault.Memory))
    → (ends : SettingsFault) → IsClientFault doc ends → (r ≡ Err ends) ⊎ (r ≡ Err fault.Memory)
client_exactly doc (Ok s) ok err ends x = absurd (no_fault doc s ends ok x)
client_exactly doc (Err other) ok err ends x = at_client_fault doc (Err other) other refl err ends x

gives : (ms : Members) (e : ClientEntries) (s : ClientSettings) → SaysClientEntries ms e → FitsClientEntries e s → unfit_client e ≡ None → GivesClients ms s
gives ms e s says fit none =
    let lawful = (size_is e none).0 in
    let desks = (size_is e none).1 in
    search (rules, lawful, desks.0, desks.1)

-- the settings of entries that fit
pub of_client_entries : (doc : Option Members) (ms : Members) (e : ClientEntries) (r : Result ClientSettings SettingsFault) → doc ≡ Some ms → SaysClientEntries ms e
    → IfOk r (λ s. FitsClientEntries e s × (unfit_client e ≡ None)) → IfOk r (IsClientSettings doc)
of_client_entries doc ms e (Ok s) is says h = subst (λ (d : Option Members). IsClientSettings d s) (sym is) (gives ms e s says h.0 h.1)
of_client_entries doc ms e (Err f) is says h = tt

-- a document that gives the one gives the other
pub clients_alike : (document : Option Members) (read s : ClientSettings) → IsLikeClient read s → IsClientSettings document read → IsClientSettings document s
clients_alike None read s like given = given
clients_alike (Some ms) read s like g = record {
  cluster = subst (λ (number : ℕ). HasNumber ms Cluster number) like.cluster g.cluster;
  n = subst (λ (size : Size). HasSmall ms N size.n) like.size g.n;
  t = subst (λ (size : Size). HasSmall ms T size.t) like.size g.t;
  questions = subst (λ (size : Size). HasSmall ms Questions size.questions) like.size g.questions;
  lawful = subst (λ (size : Size). size_fault size.n size.t size.questions ≡ None) like.size g.lawful;
  desks = subst (λ (desks : List Address). HasAddresses ms Desks desks) like.desks g.desks;
  count = sym (ap (λ (desks : List Address). length desks) like.desks) ∙ (g.count ∙ ap (λ (size : Size). size.n) like.size);
  apart = sym (ap stands_twice like.desks) ∙ g.apart;
  chain = subst (λ (flag : Bool). MayHaveFlag ms Chain flag) like.chain g.chain;
}

-- settings that are read as others aren't written
pub of_other_clients : (read_of document : Option Members) (read s : ClientSettings) → read_of ≡ document → IsClientSettings read_of read → (IsLikeClient read s → ⊥)
    → IsUnwrittenClient document s fault.Text
of_other_clients read_of document read s is given unlike = inr (inl (refl, (read, subst (λ (d : Option Members). IsClientSettings d read) is given, unlike)))
