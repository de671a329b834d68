use Rattle.test_program.proofs.texts.as_listed.Given as goal

-- a source has so many turns left, and each batch takes one
abbrev pub decreases-batches : goal.decreases-batches
decreases-batches l = l.source.turns
