use Rattle.std.proofs.Common.{◌≡◌, ◌+◌, ◌++◌, ◌∷◌, List, drop, map, sym, ap, subst, ◌∙◌, arith}
use Rattle.std.proofs.lemmas.Result.{err_from_is_err_and}
use Rattle.sim.specs.declared.events.Event.{Event}
use Rattle.script.specs.Acts.{tossed_act}
use Rattle.script.proofs.Counting.{next_of}
use Rattle.numerals.specs.Sentences.{bit_digit}
use Rattle.report.specs.Traces.{is_skipped}
use Rattle.report.proofs.Wording.{bit_of}
use Rattle.commands.specs.Counts.{CountsPlayed}
use Rattle.commands.proofs.Simulating.{bit_small}
use Rattle.commands.proofs.Counted.{one_counted}
use Rattle.commands.proofs.simulate.play_batch.Goals as goal

pub loop-event-preserved : goal.loop-event-preserved
loop-event-preserved c =
    let i = c.loop-event.event-index in
    let events = c.args.events.now in
    let digit : c.from-skipped.result ≡ bit_digit (is_skipped c.in_ok-mark.mark) =
    c.from-skipped.ensures ∙ bit_of c.is_skipped.result ∙ ap bit_digit c.is_skipped.ensures in
    let small = bit_small (is_skipped c.in_ok-mark.mark) in
    let split : drop i events ≡ c.event-item.result ∷ drop (i + 1) events =
    next_of events i c.event-item.result c.loop-event-test.true ∙ ap (λ (e : Event). e ∷ drop (i + 1) events) (sym c.event-item.is) in
    record {
      count = let h = c.loop-event.invariant.count in omega (arith, h);
      fewer = let h = c.loop-event.invariant.fewer in omega (arith, h, digit, small);
      counted = λ size liars all left so.
          one_counted c.args.alloc size liars all (map tossed_act (drop (i + 1) events) ++ left) c.loop-event.cluster c.play.new.self c.event-item.result c.in_ok-mark.mark c.loop-event.played c.loop-event.skipped
          c.from-skipped.result c.in_ok-mark.ensures.stands c.in_ok-mark.ensures.room digit
          (subst (λ (l : List Event). CountsPlayed size liars all (map tossed_act l ++ left) c.loop-event.cluster c.loop-event.played c.loop-event.skipped) split
          (c.loop-event.invariant.counted size liars all left so));
    }

pub returns-in_err-mark-clause-memory : goal.returns-in_err-mark-clause-memory
returns-in_err-mark-clause-memory c size liars all left so =
    let made = err_from_is_err_and c.from_residual.result c.from_residual.ensures.1 in
    rw (made.1, made.2) (c.in_err-mark.ensures.memory _ (c.loop-event.invariant.counted size liars all left so).stands)
