-- The notes in the words of a line.
use Rattle.std.proofs.Common.{ℕ, zero, suc, ◌≡◌, ◌+◌, ◌<◌, refl, arith, List, [], ◌∷◌, ◌++◌, drop, length, add-one, Bor}
use Rattle.numerals.specs.Sentences.{texts}
use Rattle.trials.specs.Notes.{one_of, note_at, notes_in}

-- the note that begins at a word, and those that begin behind it
behind : (member : List ℕ) (words : List (Bor (List ℕ))) (place : ℕ) → place < length words
    → notes_in member (texts (drop place words))
    ≡ one_of (note_at member (texts (drop place words))) ++ notes_in member (texts (drop (suc place) words))
behind member [] place h = absurd (omega (arith, h))
behind member (word ∷ words) zero h = refl
behind member (word ∷ words) (suc place) h = behind member words place (omega (arith, h))

pub one_more : (member : List ℕ) (words : List (Bor (List ℕ))) (place : ℕ) → place < length words
    → notes_in member (texts (drop place words))
    ≡ one_of (note_at member (texts (drop place words))) ++ notes_in member (texts (drop (place + 1) words))
one_more member words place h = rw add-one (behind member words place h)
