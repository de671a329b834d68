-- How a text of somebody else's is shown to people.
use Rattle.std.specs.Prelude.{ℕ, ◌==◌, ◌||◌, ◌&&◌, nat_lt, Bool, false, List, [], ◌∷◌, ◌++◌, codes, if◌then◌else◌}
use Rattle.std.specs.List.{flat_map, list_any}
use Rattle.std.specs.Char.{encode_utf8}
use Rattle.std.specs.Str.{chars}
use Rattle.std.specs.Fmt.{digits}

-- a character that no reader sees: a control (C0, delete or C1), a separator of lines or paragraphs, or one that turns the
-- direction of what follows
abbrev pub is_hidden : ℕ → Bool
is_hidden c =
    nat_lt c 32 || (nat_lt 126 c && nat_lt c 160) || (c == 0x61C) || (nat_lt 0x200D c && nat_lt c 0x2010)
    || (nat_lt 0x2027 c && nat_lt c 0x202F) || (nat_lt 0x2065 c && nat_lt c 0x206A)

-- the text has one
abbrev pub has_hidden : List ℕ → Bool
has_hidden text = list_any is_hidden (chars text)

-- how one is written between quotes
abbrev pub hidden_text : ℕ → List ℕ
hidden_text c =
    if c == 9 then codes "\\t" else (if c == 10 then codes "\\n" else (if c == 13 then codes "\\r"
    else codes "\\u{" ++ (digits 16 false c ++ codes "}")))

-- and any character
abbrev pub char_text : ℕ → List ℕ
char_text c = if is_hidden c then hidden_text c else (if (c == 34) || (c == 92) then 92 ∷ c ∷ [] else encode_utf8 c)

-- the text in quotes
abbrev pub quoted_text : List ℕ → List ℕ
quoted_text text = codes "\"" ++ (flat_map char_text (chars text) ++ codes "\"")

-- the text itself if it has no such character, and else the text in quotes
abbrev pub visible_text : List ℕ → List ℕ
visible_text text = if has_hidden text then quoted_text text else text
