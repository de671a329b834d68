-- The lines of a transcript.
use Rattle.std.specs.Prelude.{ℕ, Bool, true, false, List, ◌∷◌, ◌++◌, codes, length, map}
use Rattle.std.specs.Fmt.{decimal}
use Rattle.std.specs.List.{flat_map}
use Rattle.hex.specs.Hex.{encode_lower}
use Rattle.terms_prelude.specs.Terms.{Statement}
use Rattle.wire.specs.Texts.{frame_bytes}
use Rattle.wire.specs.declared.message.Message.TheVariants as message

-- the bit, between two spaces' words
abbrev pub bit_words : Bool → List ℕ
bit_words true = codes "bit 1 count "
bit_words false = codes "bit 0 count "

-- the first line: the question, the bit that it was decided for, and how many lines follow
abbrev pub head_line : ℕ → Bool → ℕ → List ℕ
head_line question bit count = codes "transcript " ++ (decimal question ++ 32 ∷ (bit_words bit ++ decimal count))

-- a line for each statement: who said it, and its frame in digits of lower case
abbrev pub pair_line : ℕ × Statement → List ℕ
pair_line (from, s) = decimal from ++ 32 ∷ encode_lower (frame_bytes (message.Statement s))

-- all of them, in order
abbrev pub transcript_lines : ℕ → Bool → List (ℕ × Statement) → List (List ℕ)
transcript_lines question bit pairs = head_line question bit (length pairs) ∷ map pair_line pairs

-- as a text, with a byte 10 between two lines
abbrev pub transcript_text : ℕ → Bool → List (ℕ × Statement) → List ℕ
transcript_text question bit pairs = head_line question bit (length pairs) ++ flat_map (λ e. 10 ∷ pair_line e) pairs
