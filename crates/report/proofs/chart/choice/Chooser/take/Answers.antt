use Rattle.std.proofs.Common.{rules, ◌≡◌, true, false}
use Rattle.report.specs.Traces.{is_skipped}
use Rattle.report.proofs.Choosing.{skipped_is, judged_is}
use Rattle.report.proofs.chart.choice.Chooser.take.Goals as goal

pub returns-then-is_skipped-clause-judges : goal.returns-then-is_skipped-clause-judges
returns-then-is_skipped-clause-judges c =
    let skipped : is_skipped c.args.mark ≡ true = search rules in
    skipped_is c.args.self.now.choice c.args.self.now.size c.args.number c.args.event.now c.args.mark c.args.saved.now c.args.self.now.columns.items skipped

pub returns-clause-judges : goal.returns-clause-judges
returns-clause-judges c =
    let kept : is_skipped c.args.mark ≡ false = search rules in
    judged_is c.args.self.now.choice c.args.self.now.size c.args.number c.args.event.now c.args.mark c.args.saved.now c.args.self.now.columns.items
    c.follow_all.new.columns.items c.in_ok-is_chosen.is_chosen kept
    c.in_ok-is_chosen.ensures c.in_ok-follow_all.ensures.follow c.in_ok-follow_all.ensures.count
