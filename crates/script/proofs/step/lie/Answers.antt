use Rattle.std.proofs.Common.{refl, get_or}
use Rattle.script.proofs.Parts.{three}
use Rattle.script.proofs.step.lie.Goals as goal

pub returns-clause-some : goal.returns-clause-some
returns-clause-some c = (
  c.in-Some-Some-Some.liar,
  c.in-Some-Some-Some.to,
  c.in-Some-Some-Some.bytes.items,
  record {
    first = (get_or c.args.words.now 0 _).now;
    second = (get_or c.args.words.now 1 _).now;
    third = (get_or c.args.words.now 2 _).now;
    words_are = three c.args.words.now _ c.in-len3.len_at_least c.in-len3.len_below;
    first_is = c.in-Some-Some-Some.ensures.some;
    second_is = c.in-Some-Some-Some.ensures'.some;
    third_is = rw c.in-Some-Some-Some.is-2 at c.in_ok-bytes.ensures.some;
  },
  refl,
)
