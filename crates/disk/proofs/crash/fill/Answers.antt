use Rattle.std.proofs.Common.{◌≡◌, ◌≤◌, ◌+◌, ◌++◌, ℕ, take, drop, refl, sym, ap, ◌∙◌, arith}
use Rattle.disk.specs.Crash.{filled_from}
use Rattle.disk.proofs.Left.{unfilled_front}
use Rattle.disk.proofs.crash.fill.Goals as goal

pub loop-place-init : goal.loop-place-init
loop-place-init c =
    let least : c.min-place.result ≤ c.first_place.result = omega (arith, c.min-place.ensures) in
    let at : 0 + c.min-place.result ≡ c.min-place.result = omega arith in (
      refl,
      ap (λ (z : ℕ). take c.min-place.result c.args.seen.now ++ filled_from c.args.synced c.args.written.now c.args.byte z (drop c.min-place.result c.args.seen.now)) (sym at)
          ∙ unfilled_front c.args.synced c.args.written.now c.args.byte 0 c.min-place.result c.args.seen.now
          (omega (arith, least, c.first_place.ensures.synced)) (λ j l. c.first_place.ensures.written j (omega (arith, l, least))),
    )
