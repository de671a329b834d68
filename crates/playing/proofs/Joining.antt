-- What is written piece by piece.
use Rattle.std.proofs.Common.{ℕ, ◌≡◌, refl, ap, subst, Bool, List, ◌++◌, codes, Option}
use Rattle.std.specs.List.{count_by, flat_map}
use Rattle.std.specs.Fmt.{decimal}
use Rattle.std.specs.Io.KnownBytes.{Appends}
use Rattle.std.proofs.KnownBytes.{Appends-trans}
use Rattle.terms_prelude.specs.Terms.{Size}
use Rattle.sim.specs.declared.cluster.Outcome.{Outcome}
use Rattle.sim.specs.declared.events.Event.{Event}
use Rattle.sim.specs.declared.events.Mark.{Mark}
use Rattle.sim.specs.declared.events.Reason.TheVariants.{NoSuch, WrongSide, NotUp, Running, Nothing}
use Rattle.playing.specs.declared.page.TheConstants.{DECIDED, ROWS}
use Rattle.playing.specs.Heads.{is_for, skips_json, left_out, counts_json, size_json, verdict_row, name_json}
use Rattle.playing.specs.Rows.{rows_text}
use Rattle.playing.specs.Pages.{fields_json, run_json, page_text}

-- the same bytes in other words
pub appended_as : (a b : Option (List ℕ)) (s t : List ℕ) → s ≡ t → Appends a b s → Appends a b t
appended_as a b s t e h = subst (λ (x : List ℕ). Appends a b x) e h

-- pieces one after the other
pub three : (a b c d : Option (List ℕ)) (x y z : List ℕ) → Appends a b x → Appends b c y → Appends c d z → Appends a d (x ++ (y ++ z))
three a b c d x y z p q r = Appends-trans a b d x (y ++ z) p (Appends-trans b c d y z q r)

pub four : (a b c d e : Option (List ℕ)) (x y z w : List ℕ) → Appends a b x → Appends b c y → Appends c d z → Appends d e w → Appends a e (x ++ (y ++ (z ++ w)))
four a b c d e x y z w p q r s = Appends-trans a b e x (y ++ (z ++ w)) p (three b c d e y z w q r s)

-- the counts of each reason
pub skips_are : (marks : List Mark) (a b c d e : ℕ)
    → a ≡ count_by (is_for NoSuch) marks → b ≡ count_by (is_for WrongSide) marks → c ≡ count_by (is_for NotUp) marks
    → d ≡ count_by (is_for Running) marks → e ≡ count_by (is_for Nothing) marks
    → codes "\"no-such\":" ++ (decimal a ++ (codes ",\"wrong-side\":" ++ (decimal b ++ (codes ",\"not-up\":" ++ (decimal c
    ++ (codes ",\"running\":" ++ (decimal d ++ (codes ",\"nothing\":" ++ decimal e)))))))) ≡ skips_json marks
skips_are marks a b c d e p q r s t = rw (p, q, r, s, t) refl

-- the counts of a run
pub counts_are : (marks : List Mark) (total out : ℕ) (skips : List ℕ) → out ≡ left_out marks → skips ≡ skips_json marks
    → codes "\"total\":" ++ (decimal total ++ (codes ",\"left_out\":" ++ (decimal out ++ (codes ",\"skipped\":{" ++ (skips ++ codes "},\n")))))
    ≡ codes "\"total\":" ++ (decimal total ++ (codes ",\"left_out\":" ++ (decimal (left_out marks) ++ (codes ",\"skipped\":{" ++ (skips_json marks ++ codes "},\n")))))
counts_are marks total out skips p q = rw (p, q) refl

-- the fields of a run
pub fields_are : (size : Size) (liars : List ℕ) (outcome : Outcome) (a b c : List ℕ)
    → a ≡ size_json size liars → b ≡ counts_json outcome.marks.items → c ≡ flat_map verdict_row outcome.verdicts.items
    → a ++ (b ++ (DECIDED.now ++ (c ++ ROWS.now))) ≡ fields_json size liars outcome
fields_are size liars outcome a b c p q r = rw (p, q, r) refl

-- the same of equal lists
pub counts_as : (a b : List Mark) → a ≡ b → counts_json a ≡ counts_json b
counts_as a b e = ap counts_json e

pub rows_as : (a b : List (ℕ × ℕ × ℕ × Bool)) → a ≡ b → flat_map verdict_row a ≡ flat_map verdict_row b
rows_as a b e = ap (flat_map verdict_row) e

-- a run: its name, its fields, its rows and its end
pub run_written : (a b c d e : Option (List ℕ)) (name liars : List ℕ) (size : Size) (events : List Event) (outcome : Outcome) (x y : List ℕ)
    → x ≡ name_json name → y ≡ fields_json size liars outcome
    → Appends a b x → Appends b c y → Appends c d (rows_text events outcome.marks.items outcome.saved.items) → Appends d e (codes "]}\n")
    → Appends a e (run_json name size liars events outcome)
run_written a b c d e name liars size events outcome x y is are p q r s =
    four a b c d e (name_json name) (fields_json size liars outcome) (rows_text events outcome.marks.items outcome.saved.items) (codes "]}\n")
    (appended_as a b x (name_json name) is p) (appended_as b c y (fields_json size liars outcome) are q) r s

-- a page: its beginning, its run and its end
pub page_written : (a b c d : Option (List ℕ)) (before run after x z : List ℕ) → x ≡ before → z ≡ after
    → Appends a b x → Appends b c run → Appends c d z → Appends a d (page_text before after run)
page_written a b c d before run after x z is ends p q r =
    three a b c d before run after (appended_as a b x before is p) q (appended_as c d z after ends r)
