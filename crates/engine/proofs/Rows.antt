-- Lists that are read row by row, each row as long: what has been read, and why there is no more.
use Rattle.std.proofs.Common.{◌≡◌, ◌≢◌, ℕ, ◌-◌, ◌<◌, ◌≤◌, List, [], ◌∷◌, ◌++◌, length, take, drop, sym, ◌∙◌, ap, subst, arith, append_assoc, append-nil, length-append, take_at, drop_at}
use Rattle.std.proofs.lemmas.List.{nil_from_length}
use Rattle.std.proofs.lemmas.List.Concat.{flat_map-append}
use Rattle.std.specs.List.{flat_map, AllByRecursion}

-- what stands behind n bytes, as patterns of slices write it
abbrev pub past : ℕ → List ℕ → List ℕ
past n bytes = take (length bytes - n) (drop n bytes)

all-push : {X : Type 0} (P : X → Type 0) (xs : List X) (x : X) → AllByRecursion P xs → P x → AllByRecursion P (xs ++ x ∷ [])
all-push P [] x all is = (is, tt)
all-push P (y ∷ xs) x all is = (all.0, all-push P xs x all.1 is)

-- how a row is spelled, which ones there are, and how long each is
module _ {X : Type 0} (bytes : X → List ℕ) (Is : X → Type 0) (w : ℕ) (some : 1 ≤ w) (long : (x : X) → length (bytes x) ≡ w) where
  -- these have been read, and that is left
  abbrev pub Read : List ℕ → List ℕ → List X → Type 0
  Read all rest now = AllByRecursion Is now × (flat_map bytes now ++ rest ≡ all)

  -- no list has these bytes
  abbrev pub NoList : List ℕ → Type 0
  NoList all = (xs : List X) → AllByRecursion Is xs → all ≢ flat_map bytes xs

  pub one_more : (all rest front : List ℕ) (now next : List X) (x : X) → Read all rest now → rest ≡ front ++ past w rest → Is x → front ≡ bytes x → next ≡ now ++ x ∷ [] → Read all (past w rest) next
  one_more all rest front now next x so_far split is text pushed =
      let one : flat_map bytes (now ++ x ∷ []) ≡ flat_map bytes now ++ front =
      flat_map-append bytes now (x ∷ []) ∙ ap (λ (l : List ℕ). flat_map bytes now ++ l) (append-nil (bytes x) ∙ sym text) in
      subst (λ (l : List X). Read all (past w rest) l) (sym pushed) (
        all-push Is now x so_far.0 is,
        ap (λ (l : List ℕ). l ++ past w rest) one ∙ append_assoc (flat_map bytes now) front (past w rest) ∙ ap (λ (l : List ℕ). flat_map bytes now ++ l) (sym split) ∙ so_far.1,
      )

  behind : (now : List X) (rest : List ℕ) → NoList rest → (xs : List X) → AllByRecursion Is xs → flat_map bytes now ++ rest ≢ flat_map bytes xs
  behind [] rest odd xs are same = odd xs are same
  behind (n ∷ now) rest odd [] are same =
      absurd (omega (arith, some, long n, ap (λ (l : List ℕ). length l) same, length-append (bytes n ++ flat_map bytes now) rest, length-append (bytes n) (flat_map bytes now)))
  behind (n ∷ now) rest odd (x ∷ xs) are same =
      behind now rest odd xs are.1
      (sym (drop_at (bytes n) (flat_map bytes now ++ rest) w (long n)) ∙ ap (λ (l : List ℕ). drop w l) (sym (append_assoc (bytes n) (flat_map bytes now) rest) ∙ same)
      ∙ drop_at (bytes x) (flat_map bytes xs) w (long x))

  -- what is left is no list, so all is none
  pub none_more : (all rest : List ℕ) (now : List X) → Read all rest now → NoList rest → NoList all
  none_more all rest now so_far odd = subst (λ (l : List ℕ). NoList l) so_far.1 (behind now rest odd)

  -- the first row is none
  pub odd_row : (rest front : List ℕ) → w ≤ length rest → rest ≡ front ++ past w rest → length front ≡ w → ((x : X) → Is x → front ≢ bytes x) → NoList rest
  odd_row rest front enough split as_long odd [] are same =
      absurd (omega (arith, some, enough, ap (λ (l : List ℕ). length l) same))
  odd_row rest front enough split as_long odd (x ∷ xs) are same =
      odd x are.0 (sym (take_at front (past w rest) w as_long) ∙ ap (λ (l : List ℕ). take w l) (sym split ∙ same) ∙ take_at (bytes x) (flat_map bytes xs) w (long x))

  -- too few bytes for a row are left
  pub cut_row : (rest : List ℕ) → length rest < w → 1 ≤ length rest → NoList rest
  cut_row rest short left [] are same = absurd (omega (arith, left, ap (λ (l : List ℕ). length l) same))
  cut_row rest short left (x ∷ xs) are same =
      absurd (omega (arith, short, long x, ap (λ (l : List ℕ). length l) same, length-append (bytes x) (flat_map bytes xs)))

  -- nothing is left
  pub all_read : (all rest : List ℕ) (now : List X) → Read all rest now → length rest ≡ 0 → AllByRecursion Is now × (all ≡ flat_map bytes now)
  all_read all rest now so_far none = (
    so_far.0,
    sym so_far.1 ∙ ap (λ (l : List ℕ). flat_map bytes now ++ l) (nil_from_length rest none) ∙ append-nil (flat_map bytes now),
  )
