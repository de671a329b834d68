use Rattle.std.proofs.Common.{refl, List, ℕ, subst}
use Rattle.report.specs.Charts.{IsLieLabel}
use Rattle.report.specs.Pictures.{proposal_elements, lie_elements, fuse_elements, crash_elements, reset_elements}
use Rattle.report.proofs.Picturing.{shown, shown_some}
use Rattle.report.proofs.chart.Canvas.show.Goals as goal

pub returns-in-Propose-clause-drawn : goal.returns-in-Propose-clause-drawn
returns-in-Propose-clause-drawn c =
    shown c.show_proposal.result c.args.self.now.events c.show_proposal.new.self.events c.args.self.now.size c.args.self.now.columns.items c.args.event.now _ c.args.mark
    c.args.y (proposal_elements c.args.self.now.size.questions c.in-Propose.member c.in-Propose.question c.in-Propose.bit c.args.y) c.in-Propose.is refl c.show_proposal.ensures.drawn

pub returns-in-LieBytes-clause-drawn : goal.returns-in-LieBytes-clause-drawn
returns-in-LieBytes-clause-drawn c =
    shown_some c.show_lie.result c.args.self.now.events c.show_lie.new.self.events c.args.self.now.size c.args.self.now.columns.items c.args.event.now _ c.args.mark
    c.args.y (λ (label : List ℕ). IsLieLabel c.args.self.now.size c.as_slice.result.now label)
    (λ (label : List ℕ). lie_elements c.in-LieBytes.liar c.in-LieBytes.to label c.args.y) c.in-LieBytes.is
    (λ label is. (label, subst (λ (bytes : List ℕ). IsLieLabel c.args.self.now.size bytes label) c.as_slice.ensures.value is, refl)) c.show_lie.ensures.drawn

pub returns-in-Fuse-clause-drawn : goal.returns-in-Fuse-clause-drawn
returns-in-Fuse-clause-drawn c =
    shown c.show_fuse.result c.args.self.now.events c.show_fuse.new.self.events c.args.self.now.size c.args.self.now.columns.items c.args.event.now _ c.args.mark
    c.args.y (fuse_elements c.in-Fuse.member c.in-Fuse.calls c.args.y) c.in-Fuse.is refl c.show_fuse.ensures.drawn

pub returns-in-Crash-clause-drawn : goal.returns-in-Crash-clause-drawn
returns-in-Crash-clause-drawn c =
    shown c.show_crash.result c.args.self.now.events c.show_crash.new.self.events c.args.self.now.size c.args.self.now.columns.items c.args.event.now _ c.args.mark
    c.args.y (crash_elements c.in-Crash.member c.in-Crash.pick c.args.y) c.in-Crash.is refl c.show_crash.ensures.drawn

pub returns-in-Reset-clause-drawn : goal.returns-in-Reset-clause-drawn
returns-in-Reset-clause-drawn c =
    shown c.show_reset.result c.args.self.now.events c.show_reset.new.self.events c.args.self.now.size c.args.self.now.columns.items c.args.event.now _ c.args.mark
    c.args.y (reset_elements c.in-Reset.from c.in-Reset.to c.args.y) c.in-Reset.is refl c.show_reset.ensures.drawn
