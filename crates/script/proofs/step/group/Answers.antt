use Rattle.std.proofs.Common.{refl, get_or}
use Rattle.script.proofs.Parts.{three}
use Rattle.script.proofs.step.group.Goals as goal

pub returns-clause-some : goal.returns-clause-some
returns-clause-some c = (
  c.in_ok-number8.field-0,
  c.in_ok-number8-2.field-0,
  c.in_ok-group_size.field-0,
  record {
    first = (get_or c.args.words.now 0 _).now;
    second = (get_or c.args.words.now 1 _).now;
    third = (get_or c.args.words.now 2 _).now;
    words_are = three c.args.words.now _ c.in-len3.len_at_least c.in-len3.len_below;
    first_is = c.in_ok-number8.ensures.some;
    second_is = c.in_ok-number8-2.ensures.some;
    third_is = c.in_ok-group_size.ensures.some;
  },
  refl,
)
