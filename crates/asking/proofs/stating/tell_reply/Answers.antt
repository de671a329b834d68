use Rattle.std.proofs.Common.{◌∙◌, sym}
use Rattle.asking.proofs.Telling.{as_ready, as_told}
use Rattle.asking.specs.Statings.{wants_ready}
use Rattle.asking.proofs.stating.tell_reply.Goals as goal

pub returns-then-wants_ready-clause-status : goal.returns-then-wants_ready-clause-status
returns-then-wants_ready-clause-status g c =
    as_ready (wants_ready c.args.form) c.args.reply.now c.ready_status.result (sym c.wants_ready.ensures ∙ c.if-wants_ready.true) c.ready_status.ensures

pub returns-clause-status : goal.returns-clause-status
returns-clause-status g c =
    as_told (wants_ready c.args.form) c.args.reply.now c.in_ok-told.told (sym c.wants_ready.ensures ∙ c.if-wants_ready.false) c.in_ok-told.ensures.status
