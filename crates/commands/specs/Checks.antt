-- What `check` prints.
use Rattle.std.specs.Prelude.{ℕ, List, [], ◌∷◌, ◌++◌, Option, Some, None, codes, option_map, string_bytes}
use Rattle.std.specs.List.{flat_map}
use Rattle.std.specs.Fmt.{decimal}
use Rattle.settings.specs.declared.address.Address.{Address}
use Rattle.settings.specs.declared.document.Settings.{Settings}
use Rattle.settings.specs.Texts.{address_text}
use Rattle.numerals.specs.Sentences.{sentence}
use Rattle.numerals.specs.Lines.{line}
use Rattle.commands.specs.Dumps.{header_line}
use Rattle.commands.specs.Quoting.{visible_text}

-- the line of a peer
abbrev pub peer_line : Address → List ℕ
peer_line peer = line (sentence (codes "peer" ∷ address_text peer ∷ []))

-- the line of a key that may be left out
abbrev pub option_line : List ℕ → Option (List ℕ) → List ℕ
option_line name None = []
option_line name (Some value) = line (sentence (name ∷ value ∷ []))

-- the lines of these keys
abbrev pub options_lines : Settings → List ℕ
options_lines settings =
    option_line (codes "listen") (option_map address_text settings.listen)
    ++ (option_line (codes "desk-socket") (option_map (λ path. visible_text (string_bytes path)) settings.desk_socket)
    ++ option_line (codes "epochs") (option_map (λ path. visible_text (string_bytes path)) settings.epochs))

-- the line of the header, and those of the journal's path, of the peers, in order, of the desk, and of what may be left out
abbrev pub settings_text : Settings → List ℕ
settings_text settings =
    header_line settings.header ++ (line (sentence (codes "journal" ∷ visible_text (string_bytes settings.journal) ∷ []))
    ++ (flat_map peer_line settings.peers.items ++ (line (sentence (codes "desk" ∷ address_text settings.desk ∷ [])) ++ options_lines settings)))

-- the line of so many records
abbrev pub records_line : ℕ → List ℕ
records_line count = line (sentence (codes "records" ∷ decimal count ∷ []))
