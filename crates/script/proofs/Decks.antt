-- Decks of links.
use Rattle.std.proofs.Common.{ℕ, ◌≡◌, ◌+◌, ◌%◌, ◌<◌, refl, sym, ap, ◌∙◌, arith, List, [], ◌∷◌, ◌++◌, length, drop, get_or, append_assoc}
use Rattle.std.specs.List.{flat_map}
use Rattle.std.specs.List.Sorted.{IsPermutation}
use Rattle.std.proofs.lemmas.List.{get_or_default}
use Rattle.std.proofs.lemmas.List.Sorted.{IsPermutation-remove}
use Rattle.std.proofs.lemmas.Nat.{mod_below}
use Rattle.rand_chacha.specs.ChaCha.{ChaCha, next_word}
use Rattle.script.specs.declared.fair.Link.{Link}
use Rattle.script.specs.Drawing.{below}
use Rattle.script.specs.Fair.{deal}
use Rattle.script.specs.Fair.{links, links_from, filled, no_link}
use Rattle.script.proofs.Counting.{next_of}

-- the links of one sender more
pub links-next : (ms : List ℕ) (i : ℕ) (deck : List Link) → i < length ms
    → (deck ++ links_from (get_or ms i 0) ms) ++ flat_map (λ from. links_from from ms) (drop (i + 1) ms)
    ≡ deck ++ flat_map (λ from. links_from from ms) (drop i ms)
links-next ms i deck h =
    append_assoc deck (links_from (get_or ms i 0) ms) (flat_map (λ from. links_from from ms) (drop (i + 1) ms))
    ∙ sym (ap (λ (froms : List ℕ). deck ++ flat_map (λ from. links_from from ms) froms) (next_of ms i 0 h))

-- an empty deck is filled
pub filled_empty : (ms : List ℕ) (deck : List Link) → length deck ≡ 0 → deck ++ links ms ≡ filled ms deck
filled_empty ms [] h = refl
filled_empty ms (link ∷ deck) h = absurd (omega (arith, h))

-- another stays
pub filled_some : (ms : List ℕ) (deck : List Link) → 0 < length deck → deck ≡ filled ms deck
filled_some ms [] h = absurd (omega (arith, h))
filled_some ms (link ∷ deck) h = refl

-- then there is a link in it, where there are members
pub filled_has : (ms : List ℕ) (deck : List Link) → 0 < length ms → 0 < length (filled ms deck)
filled_has [] deck h = absurd (omega (arith, h))
filled_has (m ∷ ms) [] h = omega arith
filled_has (m ∷ ms) (link ∷ deck) h = omega arith

-- a link that is dealt, and those that are left, are the deck
pub one_out : (deck : List Link) (stream : ChaCha) → 0 < length deck → IsPermutation deck ((deal deck stream).0.0 ∷ (deal deck stream).0.1)
unfolding deal below
one_out deck stream h =
    let place : ℕ = (next_word 10 stream).0 % length deck in
    let within : place < length deck = mod_below (next_word 10 stream).0 (length deck) h in
    IsPermutation-remove deck place (get_or deck place no_link) within (get_or_default deck place no_link (get_or deck place no_link) within)
