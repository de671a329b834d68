use Rattle.std.proofs.Common.{rules}
use Rattle.portal.proofs.Fronts.{no_transcript}
use Rattle.portal.proofs.fetching.audited.Goals as goal

pub returns-in-Err-Line : goal.returns-in-Err-Line
returns-in-Err-Line c = no_transcript c.args.size c.args.text.now c.in-Err-Line.field-0-0 (search (rules, c.audit_text.ensures.line))
