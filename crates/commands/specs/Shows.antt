-- Where a simulation that the program runs says its verdicts.
use Rattle.std.specs.Prelude.{ℕ, ◌≡◌, ◌⊎◌, ◌||◌, Bool, List, Option, Some, codes, is_some, option_map}
use denote.Ref.{Bor}
use Rattle.commands.specs.declared.shown.PagePaths.{PagePaths}

-- the words of a path
abbrev pub path_text : Option (Bor (List ℕ)) → Option (List ℕ)
path_text path = option_map (λ path. path.now) path

-- a page is wanted: one has a path
abbrev pub wants_pages : PagePaths → Bool
wants_pages paths = is_some paths.trace || is_some paths.chart || is_some paths.play

-- a page takes the standard output: the path of one is `-`
abbrev pub TakesOutput : PagePaths → Type 0
TakesOutput paths =
    (path_text paths.trace ≡ Some (codes "-")) ⊎ ((path_text paths.chart ≡ Some (codes "-")) ⊎ (path_text paths.play ≡ Some (codes "-")))

-- the verdicts are said aside where a page takes the output, and else in the output
pub record AreSaid (paths : PagePaths) (InOutput Aside : Type 0) : Type 0 where
  pub in_output : (TakesOutput paths → ⊥) → InOutput
  pub aside : TakesOutput paths → Aside
