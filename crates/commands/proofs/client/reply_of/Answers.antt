use Rattle.std.proofs.Common.{ℕ, ◌≡◌, ◌==◌, ◌∷◌, [], ◌++◌, subst, false, rules, tests}
use Rattle.std.specs.Io.KnownBytes.{Consumes}
use Rattle.commands.proofs.Reading.{reads_more, reads_nothing, none_more}
use Rattle.commands.proofs.client.reply_of.Goals as goal

pub loop-init : goal.loop-init
loop-init g c = rw c.new-reply.ensures.items (record {
  none = tt;
  read = reads_nothing (g.R.Read.remaining c.args.connection.now);
})

pub loop-preserved : goal.loop-preserved
loop-preserved g c =
    let old = g.R.Read.remaining c.args.connection.now in
    let between = g.R.Read.remaining c.loop.connection in
    let new = g.R.Read.remaining c.next_byte.new.connection in
    let other : (c.in-Some.byte == 10) ≡ false = search (rules, tests, c.in-Some.byte-test) in
    rw c.in_ok-push-in-Some.ensures.items (record {
      none = none_more c.loop.reply.items c.in-Some.byte c.loop.invariant.none other;
      read = reads_more old between new c.loop.reply.items c.in-Some.byte c.loop.invariant.read c.in-Some.ensures;
    })

-- the byte that ends a line
pub returns-in-Some-eq10 : goal.returns-in-Some-eq10
returns-in-Some-eq10 g c =
    let old = g.R.Read.remaining c.args.connection.now in
    let between = g.R.Read.remaining c.loop.connection in
    let new = g.R.Read.remaining c.next_byte.new.connection in (
      c.loop.invariant.none,
      subst (λ (byte : ℕ). Consumes old new (c.loop.reply.items ++ byte ∷ [])) c.in-Some-eq10.field-0-test
          (reads_more old between new c.loop.reply.items c.in-Some-eq10.field-0 c.loop.invariant.read c.in-Some-eq10.ensures),
    )
