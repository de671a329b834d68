use Rattle.std.proofs.Common.{subst, sym, Option, set}
use Rattle.running.specs.Refusals.{IsTable}
use Rattle.running.specs.declared.refusals.KeptRefusal.{KeptRefusal}
use Rattle.running.proofs.Tables.{due_is_table}
use Rattle.running.proofs.refusals.due_at.Goals as goal

pub returns-clause-table : goal.returns-clause-table
returns-clause-table c =
    subst (λ (place : Option KeptRefusal). IsTable (set c.args.places.now c.args.at place)) (sym c.after_due.ensures)
    (due_is_table c.args.places.now c.args.at c.args.now c.requires.table c.requires.within)
