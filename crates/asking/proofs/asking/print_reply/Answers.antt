use Rattle.std.proofs.Common.{rules}
use Rattle.asking.proofs.Printing.{object_printed, status_printed}
use Rattle.asking.proofs.asking.print_reply.Goals as goal

pub returns-then-json-clause-status : goal.returns-then-json-clause-status
returns-then-json-clause-status g c =
    let printed = status_printed _ _ _ _ c.tell_object.ensures.all in
    search (rules, printed, c.deref.ensures.value)

pub returns-then-json-clause-object : goal.returns-then-json-clause-object
returns-then-json-clause-object g c = λ json.
    let told = rw c.deref.ensures.value at c.tell_object.ensures.all in
    object_printed _ _ _ _ told
