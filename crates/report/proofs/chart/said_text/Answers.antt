use Rattle.std.proofs.Common.{◌++◌, ◌∷◌, []}
use Rattle.terms_prelude.specs.Terms.{Initial, Echo, Ready}
use Rattle.report.specs.Pictures.{said_text, counted}
use Rattle.report.proofs.Picturing.{kinds_more}
use Rattle.report.proofs.chart.said_text.Goals as goal

pub loop-kind-preserved : goal.loop-kind-preserved
loop-kind-preserved c some =
    let before = c.loop-kind.invariant some in (
      before.0 ++ counted _ c.count_of.result,
      c.in_ok-add_kind.ensures before.0 some before.1,
      kinds_more c.args.verb.now c.args.saved.now (said_text c.args.verb.now c.args.saved.now) before.0 (Initial ∷ Echo ∷ Ready ∷ []) c.loop-kind.kind-index _
          c.count_of.result c.loop-kind-test.true c.count_of.ensures before.2,
    )
