use Rattle.std.proofs.Common.{◌≡◌, ◌∷◌, ◌++◌, [], ℕ, List, length, take, get_or, sym, ap, ◌∙◌, append_assoc, arith}
use Rattle.std.proofs.lemmas.List.{take_more}
use Rattle.running.proofs.Beginnings.{full_stays, kept_count}
use Rattle.running.proofs.incoming.Opening.extend.Goals as goal

pub returns-then-self-eq-HELLO : goal.returns-then-self-eq-HELLO
returns-then-self-eq-HELLO c before is =
    let count : length c.args.self.now ≡ c.self.inside.length =
    kept_count c.self.inside.bytes c.args.self.now c.self.inside.length c.self.told c.self.inside.within c.self.view_is in
    full_stays c.args.self.now before c.args.bytes.now is (omega (arith, count, c.if-self-eq-HELLO.true))

pub loop-byte-preserved : goal.loop-byte-preserved
loop-byte-preserved c before is =
    let index = c.loop-byte.byte-index in
    let bytes = c.args.bytes.now in
    c.push.ensures (before ++ take index bytes) (c.loop-byte.invariant before is)
    ∙ ap (λ (t : List ℕ). take 18 t)
    (append_assoc before (take index bytes) (get_or bytes index 0 ∷ []) ∙ ap (λ (t : List ℕ). before ++ t) (sym (take_more bytes index 0 c.loop-byte-test.true)))
