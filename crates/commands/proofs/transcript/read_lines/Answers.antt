use Rattle.std.proofs.Common.{◌-◌, arith, rules, subst}
use Rattle.commands.specs.Transcripts.{AreShown}
use Rattle.commands.proofs.Lines.{all_read, none_read, one_read}
use Rattle.commands.proofs.transcript.read_lines.Goals as goal

pub loop-left-init : goal.loop-left-init
loop-left-init g c = none_read (g.R.Read.remaining c.args.from.now) c.args.text.now.items c.args.count

pub loop-left-preserved : goal.loop-left-preserved
loop-left-preserved g c =
    one_read (g.R.Read.remaining c.args.from.now) (g.R.Read.remaining c.loop-left.from) (g.R.Read.remaining c.reply_of.new.connection)
    c.args.text.now.items c.loop-left.text.items c.extend_from_slice.new.self.items c.push.new.self.items c.in_ok-line.line.items c.as_slice-bytes.result.now
    c.args.count c.loop-left.left (c.loop-left.left - 1) c.loop-left.invariant (omega (arith, c.loop-left-test.true)) c.in_ok-line.ensures.0
    (subst AreShown c.as_slice-bytes.ensures.value (c.are_shown.ensures.0 (search (rules, c.if-not-are_shown.false)))) c.in_ok-line.ensures.1
    c.as_slice-bytes.ensures.value c.in_ok-extend_from_slice.ensures.items c.in_ok-push.ensures.items

pub returns : goal.returns
returns g c = all_read (g.R.Read.remaining c.args.from.now) (g.R.Read.remaining c.loop-left.from) c.args.text.now.items c.loop-left.text.items c.args.count c.loop-left.left c.loop-left.invariant (search rules)
