use Rattle.std.proofs.Common.{refl}
use Rattle.sim.specs.Texts.{event_text}
use Rattle.report.proofs.Wording.{written_as}
use Rattle.report.proofs.Tracing.{line_pieces}
use Rattle.report.proofs.trace.trace_line.Goals as goal

pub returns : goal.returns
returns c =
    written_as c.format.result _ _
    (line_pieces c.args.number c.args.event.now c.args.mark c.args.saved.now (event_text c.args.event.now) c.mark_text.result.now _
    refl c.mark_text.ensures c.in_ok-saved.ensures)
    c.format.ensures.ok
