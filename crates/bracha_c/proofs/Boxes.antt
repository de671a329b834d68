-- The types of boxes of what lies behind a handle: a handle owns what such a box owns.
use mir.Raw.{raw}
use mir.Syntax.{Dict, impl, tcons, tnil, dnil}
use mathlib.Core.List.{[], ◌∷◌}
use mathlib.Core.Path.{refl}
use denote.Exit.{no}
use denote.Param.{layout, arg}
use denote.Param.Laws.{Laws, arg_laws}
use denote.RattleType.{RattleType}
use Rattle.std_alloc.proofs.BoxSteps.Form.{Bx}
use Rattle.std_heap.specs.contracts.Global as heap
use Rattle.std_heap.specs.contracts.GlobalAllocator.TheImpl.{ghosts, dict}
use Rattle.std_heap.proofs.Global.TheLaws as heap_laws
use Rattle.engine.specs.contracts.engine.Engine as engine
use Rattle.engine.proofs.engine.Engine.TheLaws as engine_laws
use Rattle.engine.specs.contracts.inbox.Inbox as inbox
use Rattle.engine.proofs.inbox.Inbox.TheLaws as inbox_laws
use Rattle.engine.specs.contracts.tosses.Tosses as tosses
use Rattle.engine.proofs.tosses.Tosses.TheLaws as tosses_laws

-- a type as a call is passed it
abbrev passed : RattleType → RattleType
passed row = arg (raw (layout row)) no row

abbrev pub heap_row : RattleType
heap_row = passed heap.the_row

abbrev pub heap_row_laws : Laws heap_row
heap_row_laws = arg_laws (raw (layout heap.the_row)) no heap.the_row heap_laws.the_row_laws refl

-- how an allocator is dropped: nothing is done
abbrev pub no_drop : Dict
no_drop = impl ("bracha_c::Destruct++none::drop" ∷ []) (tcons (layout heap_row) tnil) dnil

-- a box in the program's heap
abbrev boxed : (row : RattleType) → Laws row → Bx
boxed row laws = record {
  row = row;
  laws = laws;
  al = record { row = heap_row; laws = heap_row_laws; g = ghosts; d = dict; drops = no_drop };
}

abbrev pub engine_row : RattleType
engine_row = passed engine.the_row

abbrev pub engine_row_laws : Laws engine_row
engine_row_laws = arg_laws (raw (layout engine.the_row)) no engine.the_row engine_laws.the_row_laws refl

abbrev pub engine_box : Bx
engine_box = boxed engine_row engine_row_laws

abbrev pub inbox_row : RattleType
inbox_row = passed inbox.the_row

abbrev pub inbox_row_laws : Laws inbox_row
inbox_row_laws = arg_laws (raw (layout inbox.the_row)) no inbox.the_row inbox_laws.the_row_laws refl

abbrev pub inbox_box : Bx
inbox_box = boxed inbox_row inbox_row_laws

abbrev pub tosses_row : RattleType
tosses_row = passed tosses.the_row

abbrev pub tosses_row_laws : Laws tosses_row
tosses_row_laws = arg_laws (raw (layout tosses.the_row)) no tosses.the_row tosses_laws.the_row_laws refl

abbrev pub tosses_box : Bx
tosses_box = boxed tosses_row tosses_row_laws
