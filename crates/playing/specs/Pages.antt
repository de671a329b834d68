-- The page that plays a run.
use Rattle.std.specs.Prelude.{ℕ, List, ◌++◌, codes}
use Rattle.std.specs.List.{flat_map}
use Rattle.terms_prelude.specs.Terms.{Size}
use Rattle.sim.specs.declared.events.Event.{Event}
use Rattle.sim.specs.declared.cluster.Outcome.{Outcome}
use Rattle.playing.specs.declared.page.TheConstants.{DECIDED, ROWS}
use Rattle.playing.specs.Heads.{name_json, size_json, counts_json, verdict_row}
use Rattle.playing.specs.Rows.{rows_text}

-- what stands between a run's name and its events: the cluster, the counts, the decisions and the headings
abbrev pub fields_json : Size → List ℕ → Outcome → List ℕ
fields_json size liars outcome =
    size_json size liars ++ (counts_json outcome.marks.items ++ (DECIDED.now ++ (flat_map verdict_row outcome.verdicts.items ++ ROWS.now)))

-- the object of a run
abbrev pub run_json : List ℕ → Size → List ℕ → List Event → Outcome → List ℕ
run_json name size liars events outcome =
    name_json name ++ (fields_json size liars outcome ++ (rows_text events outcome.marks.items outcome.saved.items ++ codes "]}\n"))

-- a page: its two parts, and the run between them
abbrev pub page_text : List ℕ → List ℕ → List ℕ → List ℕ
page_text before after run = before ++ (run ++ after)
