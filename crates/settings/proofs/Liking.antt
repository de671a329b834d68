-- Settings that are read as those that were written.
use Rattle.std.proofs.Common.{ℕ, ◌≡◌, ◌<◌, ◌==◌, ◌&&◌, ◌⊎◌, inl, inr, Bool, true, List, Option, Some, None, subst, ap, refl, ◌∙◌, sym, length, eqb}
use Rattle.std.specs.Bool.{Decides}
use Rattle.std.specs.Cmp.Lexicographic.{pointwise}
use Rattle.std.proofs.lemmas.Bool.Decides.{Decides-and, Decides-eqb}
use Rattle.std.proofs.lemmas.Slice.Eq.{slice_eq-Decides}
use Rattle.terms_prelude.specs.Terms.{Header, size_fault}
use Rattle.toml.specs.Data.{Members}
use Rattle.settings.specs.Words.{Address, Settings, Cluster, N, T, Questions, Me, Journal, Peers, Desk, Seed, Listen, DeskSocket, Epochs, HasNumber, HasPath, HasAddress, HasAddresses, GivesSettings, IsSettings, MayHaveAddress, MayHavePath}
use Rattle.settings.specs.Settings.{HasSmall, HasSeed}
use Rattle.settings.specs.Texts.{IsLike, IsUnwritten}
use Rattle.settings.specs.declared.fault.SettingsFault.TheVariants as fault

-- `==` of two addresses
abbrev pub address_eq : Address → Address → Bool
address_eq a b = pointwise eqb a.octets b.octets && (a.port == b.port)

address_decides : (a b : Address) → Decides (address_eq a b) (a ≡ b)
address_decides a b =
    let parts = Decides-and (pointwise eqb a.octets b.octets) (a.port == b.port) (slice_eq-Decides Decides-eqb a.octets b.octets _ refl) (Decides-eqb a.port b.port) in (
      (λ same. let both = parts.0 same in λ i. record { octets = both.0 i; port = both.1 i }),
      (λ is. parts.1 (ap (λ (x : Address). x.octets) is, ap (λ (x : Address). x.port) is)),
    )

-- lists of addresses that `==` finds the same are
pub same_addresses : (xs ys : List Address) (r : Bool) → r ≡ pointwise address_eq xs ys → r ≡ true → xs ≡ ys
same_addresses xs ys r is same = (slice_eq-Decides address_decides xs ys r is).0 same

gives_like : (ms : Members) (read s : Settings) → IsLike read s → GivesSettings ms read → GivesSettings ms s
gives_like ms read s like g = record {
  cluster = subst (λ (h : Header). HasNumber ms Cluster h.cluster) like.header g.cluster;
  n = subst (λ (h : Header). HasSmall ms N h.size.n) like.header g.n;
  t = subst (λ (h : Header). HasSmall ms T h.size.t) like.header g.t;
  questions = subst (λ (h : Header). HasSmall ms Questions h.size.questions) like.header g.questions;
  lawful = subst (λ (h : Header). size_fault h.size.n h.size.t h.size.questions ≡ None) like.header g.lawful;
  me = subst (λ (h : Header). HasNumber ms Me h.me) like.header g.me;
  below = subst (λ (h : Header). h.me < h.size.n) like.header g.below;
  journal = subst (λ (path : List ℕ). HasPath ms Journal path) like.journal g.journal;
  peers = subst (λ (peers : List Address). HasAddresses ms Peers peers) like.peers g.peers;
  count = sym (ap (λ (peers : List Address). length peers) like.peers) ∙ (g.count ∙ ap (λ (h : Header). h.size.n) like.header);
  desk = subst (λ (desk : Address). HasAddress ms Desk desk) like.desk g.desk;
  seed = subst (λ (seed : List ℕ). HasSeed ms Seed seed) like.seed g.seed;
  listen = subst (λ (listen : Option Address). MayHaveAddress ms Listen listen) like.listen g.listen;
  desk_socket = subst (λ (path : Option (List ℕ)). MayHavePath ms DeskSocket path) like.desk_socket g.desk_socket;
  epochs = subst (λ (path : Option (List ℕ)). MayHavePath ms Epochs path) like.epochs g.epochs;
}

-- a document that gives the one gives the other
pub given_alike : (document : Option Members) (read s : Settings) → IsLike read s → IsSettings document read → IsSettings document s
given_alike None read s like given = given
given_alike (Some ms) read s like given = gives_like ms read s like given

-- and it finds those that are
pub all_same_addresses : (xs ys : List Address) (r : Bool) → r ≡ pointwise address_eq xs ys → xs ≡ ys → r ≡ true
all_same_addresses xs ys r is same = (slice_eq-Decides address_decides xs ys r is).1 same

-- settings that are read as others aren't written
pub of_others : (read_of document : Option Members) (read s : Settings) → read_of ≡ document → IsSettings read_of read → (IsLike read s → ⊥) → IsUnwritten document s fault.Text
of_others read_of document read s is given unlike = inr (inl (refl, (read, subst (λ (d : Option Members). IsSettings d read) is given, unlike)))
