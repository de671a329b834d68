-- Entries that don't fit one another, and settings without a fault.
use Rattle.std.proofs.Common.{◌≡◌, ◌<◌, ◌≤◌, refl, sym, subst, arith, Bool, true, false, cond, ◌==◌, nat_lt, Option, Some, None, Result, Ok, Err, IfErr, length, ◌⊎◌, inl, inr, option_map, string_bytes, eq-eqb}
use Rattle.std.proofs.lemmas.Bool.Decides.{nat_tests}
use Rattle.toml.specs.Data.{Members}
use Rattle.terms_prelude.specs.Terms.{size_fault, SizeFault}
use Rattle.settings.specs.Words.{Entries, Me, Peers, Settings, SettingsFault, AllSuit, HasNumbers, IsOfMany, IsFault, SaysEntries, unfit, misfit, size_or, keys}
use Rattle.settings.specs.declared.fault.SettingsFault.TheVariants as fault

-- all keys of what the entries say have values of their own
pub all_suit : (ms : Members) (e : Entries) → SaysEntries ms e → AllSuit keys ms
all_suit ms e says = (
  (e.cluster, says.cluster),
  (
    (e.n, says.n),
    (
      (e.t, says.t),
      (
        (e.questions, says.questions),
        (
          (e.me, says.me),
          (
            (string_bytes e.journal, says.journal),
            (
              (e.peers.items, says.peers),
              (
                (e.desk, says.desk),
                ((e.seed, says.seed), ((e.listen, says.listen), ((option_map string_bytes e.desk_socket, says.desk_socket), ((option_map string_bytes e.epochs, says.epochs), tt)))),
              ),
            ),
          ),
        ),
      ),
    ),
  ),
)

numbers : (ms : Members) (e : Entries) → SaysEntries ms e → HasNumbers keys ms e.n e.t e.questions
numbers ms e says = record { suit = all_suit ms e says; n_is = says.n.0; t_is = says.t.0; questions_is = says.questions.0 }

-- what is wrong with entries is a fault of the document
pub unfit_fault : (ms : Members) (e : Entries) (ends : SettingsFault) → SaysEntries ms e → unfit e ≡ Some ends → IsFault (Some ms) ends
unfit_fault ms e ends says h = by_size (size_fault e.n e.t e.questions) refl h
  where
    of_many : size_fault e.n e.t e.questions ≡ None → IsOfMany keys ms e.n
    of_many none = (e.t, e.questions, numbers ms e says, none)

    by_peers : (b : Bool) → (length e.peers.items == e.n) ≡ b → e.me < e.n → size_fault e.n e.t e.questions ≡ None
        → cond b None (Some (fault.Key Peers)) ≡ Some ends → IsFault (Some ms) ends
    by_peers true p below none g = cc
    by_peers false p below none g =
        let is : fault.Key Peers ≡ ends = cc in
        subst (IsFault (Some ms)) is (inr (
          e.n,
          e.me,
          e.peers.items,
          of_many none,
          says.me,
          below,
          says.peers,
          (λ same. let yes = eq-eqb (length e.peers.items) e.n same in cc),
        ))

    by_me : (b : Bool) → nat_lt e.me e.n ≡ b → size_fault e.n e.t e.questions ≡ None
        → cond b (cond (length e.peers.items == e.n) None (Some (fault.Key Peers))) (Some (fault.Key Me)) ≡ Some ends → IsFault (Some ms) ends
    by_me true p none g = by_peers (length e.peers.items == e.n) refl (grind (arith, nat_tests)) none g
    by_me false p none g =
        let is : fault.Key Me ≡ ends = cc in
        let above : e.n ≤ e.me = grind (arith, nat_tests) in
        subst (IsFault (Some ms)) is (inr (e.n, e.me, of_many none, says.me, above))

    by_size : (o : Option SizeFault) → size_fault e.n e.t e.questions ≡ o → size_or o (misfit e.n e.me (length e.peers.items)) ≡ Some ends → IsFault (Some ms) ends
    by_size (Some size) p g =
        let is : fault.Size size ≡ ends = cc in
        subst (IsFault (Some ms)) is (e.n, e.t, e.questions, numbers ms e says, p)
    by_size None p g = by_me (nat_lt e.me e.n) refl p g

-- so is the answer
pub unfit_answer : (ms : Members) (doc : Option Members) (e : Entries) (r : Result Settings SettingsFault) → doc ≡ Some ms → SaysEntries ms e
    → IfErr r (λ ends. unfit e ≡ Some ends) → IfErr r (λ ends. IsFault doc ends ⊎ (ends ≡ fault.Memory))
unfit_answer ms doc e (Ok s) is says h = tt
unfit_answer ms doc e (Err ends) is says h = inl (subst (λ (d : Option Members). IsFault d ends) (sym is) (unfit_fault ms e ends says h))
