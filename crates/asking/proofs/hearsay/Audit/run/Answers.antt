use Rattle.std.proofs.Common.{◌++◌, ℕ, Bool, List, subst}
use Rattle.terms_prelude.specs.Terms.{Size}
use Rattle.client.specs.Readings.{size_of}
use Rattle.asking.proofs.Proving.{has_told, status_is}
use Rattle.asking.specs.Polls.{HasStatusFor}
use Rattle.asking.proofs.hearsay.Audit.run.Goals as goal

pub returns-then-status-ne0-clause-status : goal.returns-then-status-ne0-clause-status
returns-then-status-ne0-clause-status g c = λ words reads.
    let first = c.in_ok-gather.ensures in
    let one = first.more words reads in
    let told = c.in_ok-status.ensures.verdict (words ++ one.0) one.1 in
    (one.0, one.1, subst (λ (s : Size). HasStatusFor s (words ++ one.0) c.in_ok-status.status) first.size_is (status_is _ _ _ told))

pub returns-clause-status : goal.returns-clause-status
returns-clause-status g c = λ words reads.
    has_told _ _ _ words c.in_ok-status.status c.if-status-ne0.false c.in_ok-gather.ensures c.in_ok-gather-2.ensures reads
    (λ all are. status_is _ all _ (c.in_ok-status.ensures.verdict all are))
