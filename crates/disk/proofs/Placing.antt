-- Bytes with their places, and moves of a part of them.
use Rattle.std.proofs.Common.{◌≡◌, ℕ, ◌+◌, ◌-◌, ◌≤◌, Bool, true, false, List, [], ◌∷◌, ◌++◌, length, take, drop, sym, ap, ◌∙◌, subst, arith, append_assoc, length-append, length-drop, Result, Ok, Err, IfOk, OnErr, take-append-drop, length-take-le, take_all}
use Rattle.std.proofs.lemmas.List.{take-append-le}
use Rattle.std.proofs.Math.Seq.{take-append-add}
use borrow.Rule.Slice.PartMut.{put_mid, post_of}
use Rattle.disk.specs.System.{Done, placed, with_read, with_written, WroteSome}

pub placed-append : (at : ℕ) (a b : List ℕ) → placed at (a ++ b) ≡ placed at a ++ placed (at + length a) b
placed-append at [] b = ap (λ (k : ℕ). placed k b) (omega arith)
placed-append at (x ∷ a) b =
    ap (λ (l : List (ℕ × ℕ)). (at, x) ∷ l) (placed-append (at + 1) a b ∙ ap (λ (k : ℕ). placed (at + 1) a ++ placed k b) (omega arith))

pub written_both : (done : Done) (at : ℕ) (a b : List ℕ) → with_written (with_written done at a) (at + length a) b ≡ with_written done at (a ++ b)
written_both done at a b =
    ap (λ (l : List (ℕ × ℕ)). record done { written = l })
    (append_assoc done.written (placed at a) (placed (at + length a) b) ∙ ap (λ (l : List (ℕ × ℕ)). done.written ++ l) (sym (placed-append at a b)))

pub read_both : (done : Done) (at : ℕ) (a b : List ℕ) → with_read (with_read done at a) (at + length a) b ≡ with_read done at (a ++ b)
read_both done at a b =
    ap (λ (l : List (ℕ × ℕ)). record done { read = l })
    (append_assoc done.read (placed at a) (placed (at + length a) b) ∙ ap (λ (l : List (ℕ × ℕ)). done.read ++ l) (sym (placed-append at a b)))

-- the front of the buffer was read
pub record ReadsSoFar (old now : Done) (at k : ℕ) (buf : List ℕ) : Type 0 where
  pub within : k ≤ length buf
  pub read : now ≡ with_read old at (take k buf)

-- a part was written, and the rest is left
pub record WritesSoFar (old now : Done) (at place : ℕ) (all rest : List ℕ) : Type 0 where
  pub part : List ℕ
  pub whole : all ≡ part ++ rest
  pub wrote : now ≡ with_written old at part
  pub behind : place ≡ at + length part

-- a call that was interrupted failed
pub interrupted : {T E P : Type 0} (done : Result T E) (was : Bool) → IfOk done (λ _. was ≡ false) → was ≡ true → OnErr done P → P
interrupted (Ok x) was other is p = cc
interrupted (Err e) was other is p = p

-- the front of a buffer, behind which a part was filled
take_filled : (k n m : ℕ) (buf part : List ℕ) → k ≤ length buf → n ≤ length part → take (k + n) (put_mid k m buf part) ≡ take k buf ++ take n part
take_filled k n m buf part le few =
    let a : List ℕ = take k buf in
    let long : length a ≡ k = length-take-le k buf le in
    subst (λ (i : ℕ). take (i + n) (a ++ (part ++ post_of k m buf)) ≡ a ++ take n part) long
    (take-append-add a (part ++ post_of k m buf) n ∙ ap (λ (l : List ℕ). a ++ l) (take-append-le n part (post_of k m buf) few))

-- a part more was read
pub reads_on : (old now new : Done) (at k place n m : ℕ) (buf part : List ℕ) → ReadsSoFar old now at k buf → place ≡ at + k → m ≡ length buf - k
    → n ≤ length part → length part ≡ m → new ≡ with_read now place (take n part) → ReadsSoFar old new at (k + n) (put_mid k m buf part)
reads_on old now new at k place n m buf part s place_is m_is few long read =
    let a : List ℕ = take k buf in
    let front : length a ≡ k = length-take-le k buf s.within in
    record {
      within = omega (arith, s.within, front, length-append a (part ++ post_of k m buf), length-append part (post_of k m buf));
      read = read ∙ ap (λ (d : Done). with_read d place (take n part)) s.read
          ∙ ap (λ (p : ℕ). with_read (with_read old at a) p (take n part)) (place_is ∙ ap (λ (i : ℕ). at + i) (sym front))
          ∙ read_both old at a (take n part)
          ∙ ap (λ (l : List ℕ). with_read old at l) (sym (take_filled k n m buf part s.within few));
    }

-- a part more was written
writes_more : (old now new : Done) (at place n : ℕ) (all rest : List ℕ) → (s : WritesSoFar old now at place all rest) → new ≡ with_written now place (take n rest)
    → new ≡ with_written old at (s.part ++ take n rest)
writes_more old now new at place n all rest s wrote =
    wrote ∙ ap (λ (d : Done). with_written d place (take n rest)) s.wrote ∙ ap (λ (p : ℕ). with_written (with_written old at s.part) p (take n rest)) s.behind
    ∙ written_both old at s.part (take n rest)

whole_more : (n : ℕ) (all part rest : List ℕ) → all ≡ part ++ rest → all ≡ (part ++ take n rest) ++ drop n rest
whole_more n all part rest whole =
    whole ∙ ap (λ (l : List ℕ). part ++ l) (sym (take-append-drop n rest)) ∙ sym (append_assoc part (take n rest) (drop n rest))

pub writes_on : (old now new : Done) (at place next n : ℕ) (all rest : List ℕ) → WritesSoFar old now at place all rest → next ≡ place + n
    → n ≤ length rest → new ≡ with_written now place (take n rest) → WritesSoFar old new at next all (take (length rest - n) (drop n rest))
writes_on old now new at place next n all rest s next_is few wrote = record {
  part = s.part ++ take n rest;
  whole = whole_more n all s.part rest s.whole
      ∙ ap (λ (l : List ℕ). (s.part ++ take n rest) ++ l) (sym (take_all (length rest - n) (drop n rest) (omega (arith, length-drop n rest))));
  wrote = writes_more old now new at place n all rest s wrote;
  behind = omega (arith, next_is, s.behind, length-append s.part (take n rest), length-take-le n rest few);
}

pub writes_part : (old now new : Done) (at place n : ℕ) (all rest : List ℕ) → WritesSoFar old now at place all rest → new ≡ with_written now place (take n rest)
    → WroteSome old new at all
writes_part old now new at place n all rest s wrote = record {
  part = s.part ++ take n rest;
  rest = drop n rest;
  whole = whole_more n all s.part rest s.whole;
  now = writes_more old now new at place n all rest s wrote;
}
