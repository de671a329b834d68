-- The pieces of what `check` prints.
use Rattle.std.proofs.Common.{string_bytes, ℕ, ◌≡◌, ap, ap₂, ◌∙◌, append_assoc, codes, List, [], ◌∷◌, ◌++◌}
use Rattle.std.specs.List.{flat_map}
use Rattle.settings.specs.declared.document.Settings.{Settings}
use Rattle.numerals.specs.Sentences.{sentence}
use Rattle.numerals.specs.Lines.{line}
use Rattle.commands.specs.Dumps.{header_line}
use Rattle.settings.specs.Texts.{address_text}
use Rattle.commands.specs.Quoting.{visible_text}
use Rattle.commands.specs.Checks.{peer_line, options_lines, settings_text}

-- a line, before what follows it
in_line : (word value rest : List ℕ) → (word ++ 32 ∷ []) ++ (value ++ (codes "\n" ++ rest)) ≡ line (sentence (word ∷ value ∷ [])) ++ rest
in_line word value rest = simp append_assoc

-- what the settings say, from the pieces that were written
pub settings_pieces : (s : Settings) (header journal peers desk options : List ℕ) → header ≡ header_line s.header
    → journal ≡ visible_text (string_bytes s.journal) → peers ≡ flat_map peer_line s.peers.items → desk ≡ address_text s.desk → options ≡ options_lines s
    → header ++ (codes "journal " ++ (journal ++ (codes "\n" ++ (peers ++ (codes "desk " ++ (desk ++ (codes "\n" ++ options))))))) ≡ settings_text s
settings_pieces s header journal peers desk options a j b c o =
    ap (λ (r : List ℕ). header ++ r) (in_line (codes "journal") journal _ ∙ ap (λ (r : List ℕ). line (sentence (codes "journal" ∷ journal ∷ [])) ++ (peers ++ r)) (in_line (codes "desk") desk options))
    ∙ (ap₂ (λ (h r : List ℕ). h ++ (line (sentence (codes "journal" ∷ journal ∷ [])) ++ (peers ++ (line (sentence (codes "desk" ∷ desk ∷ [])) ++ r)))) a o
    ∙ (ap₂ (λ (p d : List ℕ). header_line s.header ++ (line (sentence (codes "journal" ∷ journal ∷ [])) ++ (p ++ (line (sentence (codes "desk" ∷ d ∷ [])) ++ options_lines s)))) b c
    ∙ ap (λ (path : List ℕ). header_line s.header ++ (line (sentence (codes "journal" ∷ path ∷ [])) ++ (flat_map peer_line s.peers.items ++ (line (sentence (codes "desk" ∷ address_text s.desk ∷ [])) ++ options_lines s)))) j))
