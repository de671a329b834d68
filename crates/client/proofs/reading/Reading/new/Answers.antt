use Rattle.std.proofs.Common.{[]}
use Rattle.client.specs.Readings.{Reads}
use Rattle.client.proofs.Told.{nothing_told}
use Rattle.client.proofs.reading.Reading.new.Goals as goal

pub returns-clause-nothing : goal.returns-clause-nothing
unfolding Reads
returns-clause-nothing c =
    let nothing = nothing_told c.args.size c.none.result c.none.ensures.nobody in
    record { votes = nothing.0; decides = nothing.1 }
