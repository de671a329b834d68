use Rattle.std.proofs.Common.{rules, ◌≡◌, true, false}
use Rattle.report.specs.Traces.{is_skipped}
use Rattle.report.proofs.Running.{passed_over, passed, left_out}
use Rattle.report.proofs.chart.Canvas.take.Goals as goal

pub returns-then-is_skipped : goal.returns-then-is_skipped
returns-then-is_skipped c few =
    let skipped : is_skipped c.args.mark ≡ true = search rules in
    passed_over c.args.is_chosen c.args.number c.args.event.now c.args.mark c.args.saved.now c.args.self.now skipped

pub returns-then-not-is_chosen : goal.returns-then-not-is_chosen
returns-then-not-is_chosen c few =
    let kept : is_skipped c.args.mark ≡ false = search rules in
    let out : c.args.is_chosen ≡ false = search rules in
    left_out c.args.is_chosen c.args.number c.args.event.now c.args.mark c.args.saved.now c.args.self.now c.follow.new.self kept out
    c.in_ok-follow.ensures.follow c.in_ok-follow.ensures.count c.in_ok-follow.ensures.rest

pub returns : goal.returns
returns c few =
    let kept : is_skipped c.args.mark ≡ false = search rules in
    let is : c.args.is_chosen ≡ true = search rules in
    passed c.args.is_chosen c.args.number c.args.event.now c.args.mark c.args.saved.now c.args.self.now c.draw.new.self kept is (c.in_ok-draw.ensures.draws few)
