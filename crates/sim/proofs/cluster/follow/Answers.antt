use Rattle.std.proofs.Common.{◌≡◌, ◌+◌, ◌++◌, ◌∷◌, [], List, take, ◌∙◌, ap, sym, subst, take_all}
use Rattle.std.proofs.lemmas.List.{take_more}
use Rattle.std.proofs.lemmas.Result.{err_from_is_err_and}
use Rattle.std.specs.Global.{Vec}
use Rattle.terms_prelude.specs.Terms.{Record}
use Rattle.sim.specs.Words.{Event, Mark, ClusterStandsFor, played}
use Rattle.sim.proofs.cluster.follow.Goals as goal

pub loop-event-init : goal.loop-event-init
loop-event-init c size liars fused at =
    subst (λ (l : List Mark). ClusterStandsFor (played size liars fused [] l c.in_ok-saved.saved.items) c.args.cluster.now) (sym c.in_ok-marks.ensures.items)
    (subst (λ (l : List (Vec Record)). ClusterStandsFor (played size liars fused [] [] l) c.args.cluster.now) (sym c.in_ok-saved.ensures.items) at)

pub loop-event-preserved : goal.loop-event-preserved
loop-event-preserved c size liars fused at =
    let events = take c.loop-event.event-index c.args.script.now in
    let marks = c.loop-event.marks.items in
    let records = c.loop-event.saved.items in
    let more = c.in_ok-play.ensures.stands (played size liars fused events marks records) c.in_ok-records.records (c.loop-event.invariant size liars fused at)
    (c.in_ok-records.ensures.items ∙ c.saved.ensures) in
    let front : take (c.loop-event.event-index + 1) c.args.script.now ≡ events ++ c.event-item.result ∷ [] =
    take_more c.args.script.now c.loop-event.event-index c.event-item.result c.loop-event-test.true
    ∙ ap (λ (e : Event). take c.loop-event.event-index c.args.script.now ++ e ∷ []) (sym c.event-item.is) in
    let marked : c.push.new.self.items ≡ marks ++ c.in_ok-play.field-0 ∷ [] = c.in_ok-push.ensures.items in
    let saved : c.push-in-loop-event.new.self.items ≡ records ++ c.in_ok-records.records ∷ [] = c.in_ok-push-2.ensures.items in
    subst (λ (l : List Event). ClusterStandsFor (played size liars fused l c.push.new.self.items c.push-in-loop-event.new.self.items) c.play.new.self) (sym front)
    (subst (λ (l : List Mark). ClusterStandsFor (played size liars fused (events ++ c.event-item.result ∷ []) l c.push-in-loop-event.new.self.items) c.play.new.self) (sym marked)
    (subst (λ (l : List (Vec Record)). ClusterStandsFor (played size liars fused (events ++ c.event-item.result ∷ []) (marks ++ c.in_ok-play.field-0 ∷ []) l) c.play.new.self) (sym saved) more))

pub returns-clause-stands : goal.returns-clause-stands
returns-clause-stands c size liars fused at =
    subst (λ (l : List Event). ClusterStandsFor (played size liars fused l c.loop-event.marks.items c.loop-event.saved.items) c.loop-event.cluster)
    (take_all c.loop-event.event-index c.args.script.now c.loop-event-test.false)
    (c.loop-event.invariant size liars fused at)

pub returns-in_err-play-clause-memory : goal.returns-in_err-play-clause-memory
returns-in_err-play-clause-memory c size liars fused at =
    let made = err_from_is_err_and c.from_residual-in_err-play.result c.from_residual-in_err-play.ensures.1 in
    rw (made.1, made.2) (c.in_err-play.ensures.memory _ (c.loop-event.invariant size liars fused at))
