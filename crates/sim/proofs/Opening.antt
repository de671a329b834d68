-- All journals are opened, one after the other.
use Rattle.std.proofs.Common.{ap, ◌≡◌, ◌<◌, ◌≤◌, ◌+◌, ℕ, zero, suc, [], ◌∷◌, ◌++◌, Bool, true, false, eqb, List, length, get_or, set, get_or-set_same, get_or-set_other, refl, sym, subst, ◌∙◌, arith, eqb-true, is_some}
use Rattle.std.proofs.lemmas.Bool.{eqb-false}
use Rattle.std.proofs.lemmas.List.{get_or_default}
use Rattle.disk.specs.declared.memory.MemDisk.{MemDisk}
use Rattle.disk.specs.Memory.{fuse_left}
use Rattle.sim.specs.Words.{Post, HasFuse, among, fused_in, Link, mine, is_liar, opening, OpensPost, IsReady, IsCreated, IsOpenedPost, IsNewLink, IsLink, IsPost}
use Rattle.terms_prelude.specs.Terms.{Size, Header}
use Rattle.sim.proofs.Done.{link_new}

module _ (initial posts : List Post) (i : ℕ) (x new : Post) (l : i < length posts) (at : x ≡ get_or posts i x) (one : OpensPost x new)
    (done : (p : ℕ) (d : Post) → p < i → OpensPost (get_or initial p d) (get_or posts p d))
    (rest : (p : ℕ) (d : Post) → i ≤ p → get_or posts p d ≡ get_or initial p d) where
  pub opens_more : (p : ℕ) (d : Post) → p < i + 1 → OpensPost (get_or initial p d) (get_or (set posts i new) p d)
  opens_more p d lt = go (eqb p i) refl
    where
      go : (b : Bool) → eqb p i ≡ b → OpensPost (get_or initial p d) (get_or (set posts i new) p d)
      go true e =
          let g : p ≡ i = eqb-true p i e in
          let old : get_or initial i d ≡ x = sym (rest i d (omega arith)) ∙ get_or_default posts i d x l ∙ sym at in
          rw (g, get_or-set_same posts i new d l, old) one
      go false e =
          let ne = eqb-false p i e in
          let below : p < i = omega (arith, ne) in
          rw (get_or-set_other posts i p new d ne) (done p d below)

  pub rest_more : (p : ℕ) (d : Post) → i + 1 ≤ p → get_or (set posts i new) p d ≡ get_or initial p d
  rest_more p d le = go (eqb p i) refl
    where
      go : (b : Bool) → eqb p i ≡ b → get_or (set posts i new) p d ≡ get_or initial p d
      go true e = let g : p ≡ i = eqb-true p i e in absurd (omega arith)
      go false e = get_or-set_other posts i p new d (eqb-false p i e) ∙ rest p d (omega arith)

-- one post more
pub pushed : (P : ℕ → Post → Type 0) (xs : List Post) (x : Post) → P (length xs) x → ((p : ℕ) (d : Post) → p < length xs → P p (get_or xs p d))
    → (p : ℕ) (d : Post) → p < length (xs ++ x ∷ []) → P p (get_or (xs ++ x ∷ []) p d)
pushed P [] x h each zero d l = h
pushed P [] x h each (suc p) d l = absurd (omega arith)
pushed P (y ∷ xs) x h each zero d l = each zero d (omega arith)
pushed P (y ∷ xs) x h each (suc p) d l = pushed (λ k. P (suc k)) xs x h (λ q e lq. each (suc q) e (omega arith)) p d (omega arith)

-- fuses in a longer list of disks
pub fused_front : (xs ys : List MemDisk) (p : ℕ) → p < length xs → fused_in (xs ++ ys) p ≡ fused_in xs p
fused_front [] ys p l = absurd (omega arith)
fused_front (x ∷ xs) ys zero l = refl
fused_front (x ∷ xs) ys (suc p) l = fused_front xs ys p (omega arith)

pub fused_behind : (xs : List MemDisk) (x : MemDisk) (ys : List MemDisk) → fused_in (xs ++ x ∷ ys) (length xs) ≡ is_some (fuse_left x)
fused_behind [] x ys = refl
fused_behind (y ∷ xs) x ys = fused_behind xs x ys

pub none_left : {X : Type 0} (l : List X) → length l ≡ 0 → l ≡ []
none_left [] h = refl
none_left (x ∷ xs) h = absurd (omega arith)

-- a link at its start has read nothing
new_link : (size : Size) (liar : Bool) (link : Link) → IsNewLink size link → IsLink size liar 0 [] link
new_link size liar link new = link_new size liar 0 [] link refl refl new.place_is new.size_is new.end_is

-- a post that was opened is what the first scene has
pub opened_post : (size : Size) (liars : ℕ → Bool) (fused : ℕ → Bool) (p : ℕ) (post : Post) → IsOpenedPost (mine size p) (liars p) (fused p) post
    → IsPost size liars (opening fused) p post
opened_post size liars fused p post opened = record {
  header = opened.header_is;
  side = opened.side;
  at = opened.at;
  fused = λ _. opened.fused_is;
  links = λ a d l. new_link size (liars a) (get_or post.incoming.items a d) (opened.links a d l);
}

-- so is each that was created and then opened
pub opens_post : (size : Size) (liars : ℕ → Bool) (fused : ℕ → Bool) (p : ℕ) (old new : Post) → IsCreated (mine size p) (liars p) (fused p) old → OpensPost old new
    → IsPost size liars (opening fused) p new
opens_post size liars fused p old new created opens =
    opened_post size liars fused p new (subst (λ (h : Header). IsOpenedPost h (liars p) (fused p) new) created.header_is
    (opens.opened (liars p) (fused p) (subst (λ (h : Header). IsCreated h (liars p) (fused p) old) (sym created.header_is) created)))

-- a list with a place has something in it
some_of : {X : Type 0} (xs : List X) (p : ℕ) → p < length xs → X
some_of [] p l = absurd (omega arith)
some_of (x ∷ xs) p l = x

-- where a correct member's first opening was stopped, a fuse is in its disk
pub fuse_there : (size : Size) (liars : List ℕ) (disks : List MemDisk) (shown items : List Post) → shown ≡ items → length items ≡ length disks
    → ((p : ℕ) (d : Post) → p < length items → IsReady (get_or items p d) × IsCreated (mine size p) (among liars p) (fused_in disks p) (get_or items p d))
    → (p : ℕ) × (p < length shown) × ((d : Post) → (is_liar (get_or shown p d).presence ≡ false) × ((get_or shown p d).fused ≡ true)) → HasFuse liars disks
fuse_there size liars disks shown items is count each (p, l, told) =
    let within : p < length items = omega (arith, l, ap (λ (x : List Post). length x) is) in
    let d = some_of items p within in
    let created = (each p d within).1 in
    let here : (is_liar (get_or items p d).presence ≡ false) × ((get_or items p d).fused ≡ true) =
    subst (λ (x : List Post). (is_liar (get_or x p d).presence ≡ false) × ((get_or x p d).fused ≡ true)) is (told d) in
    (p, omega (arith, within, count), sym created.side ∙ here.0, sym created.fused_is ∙ here.1)
