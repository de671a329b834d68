use Rattle.std.proofs.Common.{◌≡◌, ◌∷◌, ◌++◌, [], ℕ, List, length, ap, ◌∙◌, arith}
use Rattle.std.proofs.lemmas.List.{take_more_set}
use Rattle.running.proofs.Beginnings.{full_stays, kept_count, more_come}
use Rattle.running.proofs.incoming.Opening.push.Goals as goal

pub returns-then-self-lt-HELLO : goal.returns-then-self-lt-HELLO
returns-then-self-lt-HELLO c before is =
    let count : length c.args.self.now ≡ c.self.inside.length =
    kept_count c.self.inside.bytes c.args.self.now c.self.inside.length c.self.told c.self.inside.within c.self.view_is in
    take_more_set c.self.inside.bytes c.self.inside.length c.args.byte (omega (arith, c.self.told, c.if-self-lt-HELLO.true))
    ∙ ap (λ (t : List ℕ). t ++ c.args.byte ∷ []) c.self.view_is
    ∙ more_come c.args.self.now before c.args.byte is (omega (arith, count, c.if-self-lt-HELLO.true))

pub returns-else-self-lt-HELLO : goal.returns-else-self-lt-HELLO
returns-else-self-lt-HELLO c before is =
    let count : length c.args.self.now ≡ c.self.inside.length =
    kept_count c.self.inside.bytes c.args.self.now c.self.inside.length c.self.told c.self.inside.within c.self.view_is in
    full_stays c.args.self.now before (c.args.byte ∷ []) is (omega (arith, count, c.if-self-lt-HELLO.false))
