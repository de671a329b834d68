use Rattle.sim.specs.Words.{among, fused_in, played}
use Rattle.sim.proofs.cluster.run.Goals as goal

pub returns-clause-run : goal.returns-clause-run
returns-clause-run c =
    c.in_ok-verdicts.ensures.run
    (played c.args.size (among c.args.liars.now) (fused_in c.args.disks.items) c.args.script.now c.in_ok-marks.marks.items c.in_ok-marks.saved.items)
    (c.in_ok-marks.ensures.stands c.args.size (among c.args.liars.now) (fused_in c.args.disks.items) c.in_ok-cluster.ensures.stands)

pub returns-clause-agree : goal.returns-clause-agree
returns-clause-agree c =
    c.in_ok-verdicts.ensures.agree
    (played c.args.size (among c.args.liars.now) (fused_in c.args.disks.items) c.args.script.now c.in_ok-marks.marks.items c.in_ok-marks.saved.items)
    (c.in_ok-marks.ensures.stands c.args.size (among c.args.liars.now) (fused_in c.args.disks.items) c.in_ok-cluster.ensures.stands)

pub returns-clause-unanimous : goal.returns-clause-unanimous
returns-clause-unanimous c =
    c.in_ok-verdicts.ensures.unanimous
    (played c.args.size (among c.args.liars.now) (fused_in c.args.disks.items) c.args.script.now c.in_ok-marks.marks.items c.in_ok-marks.saved.items)
    (c.in_ok-marks.ensures.stands c.args.size (among c.args.liars.now) (fused_in c.args.disks.items) c.in_ok-cluster.ensures.stands)
