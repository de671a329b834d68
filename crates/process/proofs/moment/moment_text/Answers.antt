use Rattle.std.proofs.Common.{rules}
use Rattle.process.proofs.moment.moment_text.Goals as goal

pub returns-clause-text : goal.returns-clause-text
returns-clause-text c = record {
  date = c.in-Ok.date;
  is_day = search rules;
  is_text = search rules;
}
