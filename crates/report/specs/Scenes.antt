-- A chart in the making.
use Rattle.std.specs.Prelude.{ℕ, ◌≡◌, Bool, List, string_bytes}
use Rattle.terms_prelude.specs.Terms.{Record, Size}
use Rattle.sim.specs.declared.events.Event.{Event}
use Rattle.sim.specs.declared.events.Mark.{Mark}
use Rattle.report.specs.declared.chart.Canvas.{Canvas}
use Rattle.report.specs.Drawings.{Element, picture_text, Grows}
use Rattle.report.specs.Pictures.{heads}
use Rattle.report.specs.Columns.{AreNew}
use Rattle.report.specs.Runs.{Stage, IsTaken, IsDrawn}

-- elements may have been drawn, and all else is as it was
abbrev pub DrawsOnly : Canvas → Canvas → Type 0
DrawsOnly old new = new ≡ record old { events = new.events }

-- how far it has come
abbrev pub stage_of : Canvas → Stage
stage_of canvas = record { columns = canvas.columns.items; row = canvas.rows }

-- before the first event: the heads stand there
pub record IsBegun (size : Size) (liars : List ℕ) (canvas : Canvas) : Type 0 where
  pub members : AreNew size.n size.n liars canvas.columns.items
  pub size_is : canvas.size ≡ size
  pub no_row : canvas.rows ≡ 0
  pub heads_stand : string_bytes canvas.events.text ≡ picture_text (heads size.n canvas.columns.items 24)

-- an event that wasn't skipped is drawn
pub record Draws (number : ℕ) (event : Event) (outcome : Mark) (saved : List Record) (old new : Canvas) : Type 0 where
  pub row : List Element
  pub size_is : new.size ≡ old.size
  pub is : IsTaken old.size number event outcome saved (stage_of old) (stage_of new) row
  pub events : Grows old.events new.events row

-- an event is drawn, if it is chosen and wasn't skipped
pub record DrawsIf (is : Bool) (number : ℕ) (event : Event) (outcome : Mark) (saved : List Record) (old new : Canvas) : Type 0 where
  pub row : List Element
  pub size_is : new.size ≡ old.size
  pub drawn : IsDrawn old.size number event outcome saved is (stage_of old) (stage_of new) row
  pub events : Grows old.events new.events row
