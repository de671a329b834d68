-- What the readers of the matches give, by the rows.
use Rattle.std.proofs.Common.{◌≡◌, ◌∙◌, ◌<◌, ◌^◌, ◌↔◌, ap, sym, subst, refl, ℕ, Bool, true, false, Option, Some, None, codes, Ok, Err, Result, unwrap_or}
use Rattle.std.specs.Str.Parse.{ParsesUnsigned, ParsesBool}
use Rattle.clap.specs.Walk.{Text, one_of, rows_of}
use Rattle.clap.specs.Matches.{ReadsOne, one_text}
use Rattle.clap.specs.declared.parser.matches.Found.{Found}
use Rattle.clap.proofs.WalkLemmas.{one_text-rows}
use Rattle.command_line.specs.Tasks.{WritesNumber, HasNumberOption, HasFlag}

-- what stands under two `Some`
pub some_is : {X : Type 0} (d x y : X) → Some x ≡ Some y → x ≡ y
some_is d x y e = ap (λ o. unwrap_or o d) e

pub not_none : {X : Type 0} (x : X) → None ≡ Some x → ⊥
not_none x e = cc

number_from : (E : Type 0) (G : Text → Result ℕ E → Type 0) (bits : ℕ) (met : Option Text) (o : Option ℕ)
    → (met ≡ None → o ≡ None) → ((t : Text) → met ≡ Some t → ReadsOne G t o)
    → ((u : Text) (x : Result ℕ E) → G u x → ParsesUnsigned bits 10 u x)
    → (n : ℕ) → o ≡ Some n → (t : Text) × (met ≡ Some t) × WritesNumber bits t n
number_from E G bits None o none reads only n is = absurd (not_none n (sym (none refl) ∙ is))
number_from E G bits (Some t) None none reads only n is = absurd (not_none n is)
number_from E G bits (Some t) (Some v) none reads only n is =
    let parsed = only t (Ok v) (reads t refl) in
    let same : n ≡ v = sym (some_is 0 v n is) in
    (t, refl, (parsed.0.0, same ∙ parsed.1, subst (λ m. m < 2 ^ bits) (sym (same ∙ parsed.1)) parsed.0.1))

number_to : (E : Type 0) (G : Text → Result ℕ E → Type 0) (bits : ℕ) (met : Option Text) (o : Option ℕ)
    → ((t : Text) → met ≡ Some t → ReadsOne G t o)
    → ((u : Text) (x : Result ℕ E) → G u x → ParsesUnsigned bits 10 u x)
    → (n : ℕ) (t : Text) → met ≡ Some t → WritesNumber bits t n → o ≡ Some n
number_to E G bits met None reads only n t is written =
    let failed = reads t is in
    absurd (only t (Err failed.0) failed.1 (written.0, subst (λ m. m < 2 ^ bits) written.1 written.2))
number_to E G bits met (Some v) reads only n t is written =
    let parsed = only t (Ok v) (reads t is) in
    ap Some (parsed.1 ∙ sym written.1)

-- a number is read where the text writes one, and that one
pub number_read : (E : Type 0) (G : Text → Result ℕ E → Type 0) (bits : ℕ) (f : Found) (id : Text) (o : Option ℕ)
    → (one_text f id ≡ None → o ≡ None) → ((t : Text) → one_text f id ≡ Some t → ReadsOne G t o)
    → ((u : Text) (x : Result ℕ E) → G u x → ParsesUnsigned bits 10 u x)
    → (n : ℕ) → (o ≡ Some n) ↔ HasNumberOption bits id (rows_of f) n
number_read E G bits f id o none reads only n =
    let same = one_text-rows f id in
    let reads_row : (t : Text) → one_of id (rows_of f) ≡ Some t → ReadsOne G t o = λ t is. reads t (same ∙ is) in (
      (λ is. number_from E G bits (one_of id (rows_of f)) o (λ e. none (same ∙ e)) reads_row only n is),
      (λ given. number_to E G bits (one_of id (rows_of f)) o reads_row only n given.0 given.1 given.2),
    )

-- the flag is set where its text is `true`
pub flag_read : (E : Type 0) (G : Text → Result Bool E → Type 0) (f : Found) (id : Text) (o : Option Bool)
    → (one_text f id ≡ None → o ≡ None) → ((t : Text) → one_text f id ≡ Some t → ReadsOne G t o)
    → ((u : Text) (x : Result Bool E) → G u x → ParsesBool u x)
    → HasFlag id (rows_of f) (unwrap_or o false)
flag_read E G f id o none reads only =
    let same = one_text-rows f id in
    go (one_of id (rows_of f)) o (λ e. none (same ∙ e)) (λ t is. reads t (same ∙ is))
  where
    go : (met : Option Text) (o : Option Bool) → (met ≡ None → o ≡ None) → ((t : Text) → met ≡ Some t → ReadsOne G t o)
        → (unwrap_or o false ≡ true) ↔ (met ≡ Some (codes "true"))
    go None None none reads = ((λ is. cc), (λ is. cc))
    go None (Some given) none reads = absurd (not_none given (sym (none refl)))
    go (Some t) None none reads = (
      (λ is. cc),
      (λ is. let failed = reads t refl in absurd ((only t (Err failed.0) failed.1).0 (some_is t t (codes "true") is))),
    )
    go (Some t) (Some true) none reads = ((λ _. ap Some (only t (Ok true) (reads t refl))), (λ _. refl))
    go (Some t) (Some false) none reads = (
      (λ is. cc),
      (λ is. let bad : codes "true" ≡ codes "false" = sym (some_is t t (codes "true") is) ∙ only t (Ok false) (reads t refl) in cc),
    )
