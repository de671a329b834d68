-- What a picture in SVG is made of, and its text. Lengths are pixels, counted from the upper left corner.
use Rattle.std.specs.Prelude.{ℕ, ◌≡◌, ◌+◌, ◌*◌, nat_lt, Bool, true, false, List, [], ◌∷◌, ◌++◌, codes, length, min, string_bytes}
use Rattle.std.specs.List.{flat_map}
use Rattle.std.specs.Fmt.{decimal}
use Rattle.report.specs.declared.chart.drawing.Words.{Words}
use Rattle.report.specs.declared.chart.drawing.Words.TheVariants as words
use Rattle.report.specs.declared.chart.drawing.Sign.{Sign}
use Rattle.report.specs.declared.chart.drawing.Sign.TheVariants as sign
use Rattle.report.specs.declared.chart.drawing.Lifeline.{Lifeline}
use Rattle.report.specs.declared.chart.drawing.Lifeline.TheVariants as lifeline
use Rattle.report.specs.declared.chart.drawing.Drawing.{Drawing}

-- an element: words at a point of a lifeline, a sign on one, an arrow from one to another, one from a lifeline to itself,
-- a badge below a point with words beside it, a piece of a lifeline
pub data Element : Type 0 where
  WordsAt : (what : Words) → (x : ℕ) → (y : ℕ) → (text : List ℕ) → Element
  SignAt : (sign : Sign) → (x : ℕ) → (y : ℕ) → Element
  Arrow : (lies : Bool) → (from : ℕ) → (to : ℕ) → (y : ℕ) → Element
  Loop : (x : ℕ) → (y : ℕ) → Element
  BadgeAt : (x : ℕ) → (y : ℕ) → (badge : List ℕ) → (text : List ℕ) → Element
  Piece : (line : Lifeline) → (x : ℕ) → (from : ℕ) → (to : ℕ) → Element

-- parts of a text, one behind the other
abbrev pub joined : List (List ℕ) → List ℕ
joined [] = []
joined (part ∷ []) = part
joined (part ∷ next ∷ parts) = part ++ joined (next ∷ parts)

-- how words look, and where they stand, seen from their point
abbrev pub words_attributes : Words → List ℕ
words_attributes words.Head = codes "class=\"head\""
words_attributes words.Number = codes "class=\"number\" dy=\"4\""
words_attributes words.Rightward = codes "class=\"middle\" dx=\"110\" dy=\"-5\""
words_attributes words.Leftward = codes "class=\"middle\" dx=\"-110\" dy=\"-5\""
words_attributes words.LieRightward = codes "class=\"middle lie\" dx=\"110\" dy=\"-5\""
words_attributes words.LieLeftward = codes "class=\"middle lie\" dx=\"-110\" dy=\"-5\""
words_attributes words.Turn = codes "dx=\"34\" dy=\"-3\""
words_attributes words.Proposal = codes "dx=\"12\" dy=\"-3\""
words_attributes words.Crash = codes "class=\"lie\" dx=\"12\" dy=\"4\""
words_attributes words.Restart = codes "class=\"opened\" dx=\"12\" dy=\"2\""
words_attributes words.Note = codes "class=\"note\" dx=\"12\" dy=\"4\""
words_attributes words.Said = codes "class=\"said\" dx=\"10\" dy=\"15\""
words_attributes words.Failure = codes "class=\"failure\" dx=\"-12\" dy=\"15\""

-- the class of a sign
abbrev pub sign_class : Sign → List ℕ
sign_class sign.Dot = codes "dot"
sign_class sign.Cross = codes "cross"
sign_class sign.Ring = codes "ring"
sign_class sign.Triangle = codes "triangle"

-- its outline, seen from its point
abbrev pub sign_shape : Sign → List ℕ
sign_shape sign.Dot = codes "m-5 0a5 5 0 1 0 10 0a5 5 0 1 0 -10 0z"
sign_shape sign.Cross = codes "m-7 -7l14 14m0 -14l-14 14"
sign_shape sign.Ring = codes "m-7 0a7 7 0 1 0 14 0a7 7 0 1 0 -14 0z"
sign_shape sign.Triangle = codes "m0 -8l8 13h-16z"

-- the class of a piece of a lifeline
abbrev pub line_class : Lifeline → List ℕ
line_class lifeline.Runs = codes "runs"
line_class lifeline.Down = codes "down"
line_class lifeline.Lies = codes "lies"

-- the class of an arrow
abbrev pub arrow_class : Bool → List ℕ
arrow_class true = codes "liar"
arrow_class false = codes "arrow"

-- the head of an arrow to the right, or else to the left, seen from its point
abbrev pub arrow_head : Bool → List ℕ
arrow_head true = codes "l-8 -4v8z"
arrow_head false = codes "l8 -4v8z"

-- half the width of a badge with so many characters
abbrev pub half_badge : ℕ → ℕ
half_badge count = 4 * min count 1000 + 8

-- the plate of a badge that is so wide to each side of its point
abbrev pub plate_text : ℕ → ℕ → ℕ → List ℕ
plate_text half x y =
    joined (codes "<g transform=\"translate(" ∷ decimal x ∷ codes "," ∷ decimal y ∷ codes ")\"><rect class=\"badge\" x=\"-"
    ∷ decimal half ∷ codes "\" y=\"5\" width=\"" ∷ decimal (2 * half) ∷ codes "\" height=\"17\" rx=\"8\"/>" ∷ [])

-- the text of a badge on such a plate, and of the words beside it
abbrev pub badge_text : ℕ → ℕ → ℕ → List ℕ → List ℕ → List ℕ
badge_text half x y badge text =
    joined (plate_text half x y ∷ codes "<text class=\"verdict\" y=\"17\">" ∷ badge ∷ codes "</text><text class=\"said\" x=\""
    ∷ decimal (half + 10) ∷ codes "\" y=\"17\">" ∷ text ∷ codes "</text></g>\n" ∷ [])

-- the text of an element
abbrev pub element_text : Element → List ℕ
element_text (WordsAt what x y text) =
    joined (codes "<text x=\"" ∷ decimal x ∷ codes "\" y=\"" ∷ decimal y ∷ codes "\" " ∷ words_attributes what ∷ codes ">"
    ∷ text ∷ codes "</text>\n" ∷ [])
element_text (SignAt sign x y) =
    joined (codes "<path class=\"" ∷ sign_class sign ∷ codes "\" d=\"M" ∷ decimal x ∷ codes " " ∷ decimal y ∷ sign_shape sign
    ∷ codes "\"/>\n" ∷ [])
element_text (Arrow lies from to y) =
    joined (codes "<path class=\"" ∷ arrow_class lies ∷ codes "\" d=\"M" ∷ decimal from ∷ codes " " ∷ decimal y ∷ codes "H"
    ∷ decimal to ∷ codes "m0 0" ∷ arrow_head (nat_lt from to) ∷ codes "\"/>\n" ∷ [])
element_text (Loop x y) =
    joined (codes "<path class=\"turn\" d=\"M" ∷ decimal x ∷ codes " " ∷ decimal y
    ∷ codes "m0 -12h26v10h-24\"/>\n<path class=\"arrow\" d=\"M" ∷ decimal x ∷ codes " " ∷ decimal y
    ∷ codes "m0 -2l8 -4v8z\"/>\n" ∷ [])
element_text (BadgeAt x y badge text) = badge_text (half_badge (length badge)) x y badge text
element_text (Piece line x from to) =
    joined (codes "<path class=\"" ∷ line_class line ∷ codes "\" d=\"M" ∷ decimal x ∷ codes " " ∷ decimal from ∷ codes "V"
    ∷ decimal to ∷ codes "\"/>\n" ∷ [])

-- the text of elements, in the order in which they are drawn
abbrev pub picture_text : List Element → List ℕ
picture_text elements = flat_map element_text elements

-- words at a point; nothing where there are none
abbrev pub words_at : Words → ℕ → ℕ → List ℕ → List Element
words_at what x y [] = []
words_at what x y (c ∷ text) = WordsAt what x y (c ∷ text) ∷ []

-- a picture after these elements were drawn into it
abbrev pub Grows : Drawing → Drawing → List Element → Type 0
Grows old new elements = string_bytes new.text ≡ string_bytes old.text ++ picture_text elements
