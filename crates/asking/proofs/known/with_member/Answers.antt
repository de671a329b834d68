use Rattle.std.proofs.Common.{rules, ◌≡◌, ◌^◌, ◌%◌, ◌*◌, ◌∙◌, ◌||◌, ◌==◌, ℕ, ap, bit_or}
use Rattle.asking.proofs.Marking.{no_member, one_more}
use Rattle.asking.specs.Marks.{is_marked}
use Rattle.asking.proofs.known.with_member.Goals as goal

pub returns-then-member-ge64 : goal.returns-then-member-ge64
returns-then-member-ge64 c = λ other below. no_member c.args.known c.args.member other c.if-member-ge64.true below

pub returns : goal.returns
returns c = λ other below.
    ap (λ (by : ℕ). is_marked (bit_or c.args.known (1 * 2 ^ by % 2 ^ 64)) other) c.from.ensures
    ∙ one_more c.args.known c.args.member other c.if-member-ge64.false
