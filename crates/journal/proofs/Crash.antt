-- What a crash leaves in each of the two steps of a commit.
use Rattle.std.proofs.Common.{◌≡◌, ◌⊎◌, inl, inr, ℕ, ◌+◌, ◌<◌, ◌≤◌, false, List, [], ◌∷◌, ◌++◌, length, get_or, take, drop, refl, sym, ◌∙◌, ap, subst, arith, append_assoc, length-append, length-drop, take-append-drop, length-take-le, take_at, drop_at, take-take, get_or-take, get_or-drop}
use Rattle.std.proofs.lemmas.Bool.Decides.{nat_tests}
use Rattle.std.proofs.lemmas.List.{drop_more, take_more, take-append-le, same_lists, get_or_default}
use Rattle.disk.specs.Model.{State, MayLeave, after_write, at_rest, overwritten, is_touched}
use Rattle.journal.specs.Words.{IsFrontOf, IsShut, IsCommit}

-- a part that agrees place by place
same_part : (file c : List ℕ) (from n : ℕ) → from + n ≤ length file → length file ≤ length c → ((k : ℕ) → from ≤ k → k < from + n → get_or c k 0 ≡ get_or file k 0) → take n (drop from c) ≡ take n (drop from file)
same_part file c from n within longer same =
    let of_c : length (take n (drop from c)) ≡ n = length-take-le n (drop from c) (omega (arith, length-drop from c)) in
    let of_file : length (take n (drop from file)) ≡ n = length-take-le n (drop from file) (omega (arith, length-drop from file)) in
    same_lists (take n (drop from c)) (take n (drop from file)) (of_c ∙ sym of_file) (λ i d lt.
    let here : i < n = omega (arith, of_c, lt) in
    get_or_default (take n (drop from c)) i d 0 lt ∙ get_or-take n (drop from c) i 0 here ∙ get_or-drop from c i 0
    ∙ same (from + i) (omega arith) (omega (arith, here))
    ∙ sym (get_or-drop from file i 0) ∙ sym (get_or-take n (drop from file) i 0 here) ∙ get_or_default (take n (drop from file)) i 0 d (omega (arith, of_file, here)))

-- a place before or behind the one range is untouched
pub outside_one : (k at n : ℕ) → (k < at) ⊎ (at + n ≤ k) → is_touched k ((at, n) ∷ []) ≡ false
outside_one k at n (inl before) = grind (arith, nat_tests)
outside_one k at n (inr past) = grind (arith, nat_tests)

module _ (file : List ℕ) (gate : ℕ) (body : List ℕ) (within : gate < length file) (closed : get_or file gate 0 ≡ 0) where
  abbrev staged : List ℕ
  staged = overwritten file (gate + 1) body

  -- the closed gate stands in each outcome of the first write
  pub stage : (c : List ℕ) → MayLeave (after_write (at_rest file) (gate + 1) body) c → IsCommit (take gate file) body c
  stage c may =
      let front : take (gate + 1) c ≡ take (gate + 1) file =
      same_part file c 0 (gate + 1) (omega (arith, within)) may.no_shorter (λ k from to. may.same_outside k (omega (arith, within, to)) (outside_one k (gate + 1) (length body) (inl (omega (arith, to))))) in
      inl (drop (gate + 1) c, sym (take-append-drop (gate + 1) c) ∙ ap (λ (l : List ℕ). l ++ drop (gate + 1) c) (front ∙ take_more file gate 0 within ∙ ap (λ (b : ℕ). take gate file ++ b ∷ []) closed))

  length_front : length (take (gate + 1) file) ≡ gate + 1
  length_front = length-take-le (gate + 1) file (omega (arith, within))

  length_staged : gate + 1 + length body ≤ length staged
  length_staged =
      omega (arith, length_front, length-append (take (gate + 1) file ++ body) (drop (gate + 1 + length body) file), length-append (take (gate + 1) file) body)

  staged_front : take gate staged ≡ take gate file
  staged_front =
      take-append-le gate (take (gate + 1) file ++ body) (drop (gate + 1 + length body) file) (omega (arith, length_front, length-append (take (gate + 1) file) body))
      ∙ take-append-le gate (take (gate + 1) file) body (omega (arith, length_front)) ∙ take-take gate (gate + 1) file (omega arith)

  staged_body : take (length body) (drop (gate + 1) staged) ≡ body
  staged_body =
      ap (λ (l : List ℕ). take (length body) (drop (gate + 1) l)) (append_assoc (take (gate + 1) file) body (drop (gate + 1 + length body) file))
      ∙ ap (λ (l : List ℕ). take (length body) l) (drop_at (take (gate + 1) file) (body ++ drop (gate + 1 + length body) file) (gate + 1) length_front)
      ∙ take_at body (drop (gate + 1 + length body) file) (length body) refl

  -- the bytes stand whole in each outcome of the second write
  pub open_gate : (c : List ℕ) → MayLeave (after_write (at_rest staged) gate (1 ∷ [])) c → IsCommit (take gate file) body c
  open_gate c may =
      let front : take gate c ≡ take gate staged =
      same_part staged c 0 gate (omega (arith, length_staged)) may.no_shorter (λ k from to. may.same_outside k (omega (arith, length_staged, to)) (outside_one k gate 1 (inl (omega (arith, to))))) in
      let behind : take (length body) (drop (gate + 1) c) ≡ take (length body) (drop (gate + 1) staged) =
      same_part staged c (gate + 1) (length body) (omega (arith, length_staged)) may.no_shorter (λ k from to. may.same_outside k (omega (arith, length_staged, to)) (outside_one k gate 1 (inr (omega (arith, from))))) in
      let b = get_or c gate 0 in
      let rest = drop (length body) (drop (gate + 1) c) in
      let tail : drop (gate + 1) c ≡ body ++ rest = sym (take-append-drop (length body) (drop (gate + 1) c)) ∙ ap (λ (l : List ℕ). l ++ rest) (behind ∙ staged_body) in
      let whole : c ≡ take gate file ++ b ∷ (body ++ rest) =
      sym (take-append-drop gate c) ∙ ap (λ (l : List ℕ). l ++ drop gate c) (front ∙ staged_front)
      ∙ ap (λ (l : List ℕ). take gate file ++ l) (drop_more c gate 0 (omega (arith, length_staged, may.no_shorter)) ∙ ap (λ (l : List ℕ). b ∷ l) tail) in
      inr (b, (rest, whole ∙ sym (append_assoc (take gate file) (b ∷ body) rest)))

  -- and then they stand behind an open gate
  pub committed : IsFrontOf (take gate file ++ 1 ∷ body) (overwritten staged gate (1 ∷ []))
  committed =
      let rest = drop (gate + 1 + length body) file in
      let behind : drop (gate + 1) staged ≡ body ++ rest =
      ap (λ (l : List ℕ). drop (gate + 1) l) (append_assoc (take (gate + 1) file) body rest) ∙ drop_at (take (gate + 1) file) (body ++ rest) (gate + 1) length_front in (
        rest,
        (λ i. staged_front i ++ (1 ∷ []) ++ behind i)
            ∙ append_assoc (take gate file) (1 ∷ []) (body ++ rest) ∙ sym (append_assoc (take gate file) (1 ∷ body) rest),
      )

-- a file that is all on the disk stands at the front of each that a crash leaves
pub begins_kept : (front file c : List ℕ) → IsFrontOf front file → MayLeave (at_rest file) c → IsFrontOf front c
begins_kept front file c begins may =
    let same : take (length front) c ≡ take (length front) file =
    same_part file c 0 (length front) (omega (arith, ap (λ (l : List ℕ). length l) begins.1, length-append front begins.0)) may.no_shorter
    (λ k from to. may.same_outside k (omega (arith, to, ap (λ (l : List ℕ). length l) begins.1, length-append front begins.0)) refl) in (
      drop (length front) c,
      sym (take-append-drop (length front) c)
          ∙ ap (λ (l : List ℕ). l ++ drop (length front) c) (same ∙ ap (λ (l : List ℕ). take (length front) l) begins.1 ∙ take_at front begins.0 (length front) refl),
    )

-- where nothing is written the gate stays closed
pub stays_shut : (s : State) (gate : ℕ) (body file : List ℕ) → IsShut gate s → MayLeave s file → IsCommit (take gate s.seen) body file
stays_shut s gate body file shut may =
    let begins : IsFrontOf (take gate s.seen ++ 0 ∷ []) s.seen = (
      drop (gate + 1) s.seen,
      sym (take-append-drop (gate + 1) s.seen)
          ∙ ap (λ (l : List ℕ). l ++ drop (gate + 1) s.seen) (take_more s.seen gate 0 shut.within ∙ ap (λ (b : ℕ). take gate s.seen ++ b ∷ []) shut.closed),
    ) in
    inl (begins_kept (take gate s.seen ++ 0 ∷ []) s.seen file begins (subst (λ (t : State). MayLeave t file) shut.on_disk may))
