-- The first key that has no value of its own.
use Rattle.std.proofs.Common.{◌≡◌, Result, Ok, Err, IfErr, List, ◌∷◌, ◌++◌, inl, inr}
use Rattle.std.specs.List.{AllByRecursion}
use Rattle.toml.specs.Data.{Members}
use Rattle.settings.specs.Words.{Key, SettingsFault, Suits, IsLackOrMemory, IsOfFirst}
use Rattle.settings.specs.declared.fault.SettingsFault.TheVariants as fault

pub first_of : {E : Type 0} (all : List Key) (ms : Members) (before : List Key) (key : Key) (behind : List Key) (ends : SettingsFault) (r : Result E SettingsFault)
    → r ≡ Err ends → all ≡ before ++ key ∷ behind → AllByRecursion (Suits ms) before → (ends ≡ fault.Key key) × (Suits ms key → ⊥) → IfErr r (IsOfFirst all ms)
first_of all ms before key behind ends (Ok e) is order good lack = cc
first_of all ms before key behind ends (Err f) is order good lack =
    let same : f ≡ ends = cc in
    inl (key, cc, record { before = before; behind = behind; order = order; good = good; bad = lack.1 })

pub first_or_memory : {A E : Type 0} (all : List Key) (ms : Members) (before : List Key) (key : Key) (behind : List Key) (ends : SettingsFault) (r : Result E SettingsFault)
    → r ≡ Err ends → all ≡ before ++ key ∷ behind → AllByRecursion (Suits ms) before
    → (Has : A → Type 0) → (Suits ms key → (value : A) × Has value) → IsLackOrMemory key Has ends → IfErr r (IsOfFirst all ms)
first_or_memory all ms before key behind ends (Ok e) is order good Has one lack = cc
first_or_memory all ms before key behind ends (Err f) is order good Has one (inl lack) =
    first_of all ms before key behind ends (Err f) is order good (lack.0, (λ h. let v = one h in lack.1 v.0 v.1))
first_or_memory all ms before key behind ends (Err f) is order good Has one (inr memory) =
    let same : f ≡ ends = cc in
    inr (cc)
