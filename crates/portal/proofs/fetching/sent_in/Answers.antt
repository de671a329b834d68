use Rattle.std.proofs.Common.{refl, rules}
use Rattle.portal.proofs.Fronts.{none_begun, none_read, sent_is}
use Rattle.portal.proofs.fetching.sent_in.Goals as goal

pub returns-then-not-branch : goal.returns-then-not-branch
returns-then-not-branch c =
    none_begun c.args.size c.args.question c.args.bit c.args.text.items c.deref.result.now c.in_ok-is_of.field-0 c.deref.ensures.value
    c.in_ok-is_of.ensures.1 (search rules)

pub returns-in-Some : goal.returns-in-Some
returns-in-Some c = (
  refl,
  refl,
  sent_is c.args.size c.args.question c.args.bit c.args.text.items c.deref.result.now c.deref-2.result.now c.in_ok-is_of.field-0 c.in_ok-proven.field-0
      (record { member = c.args.member; text = c.args.text; proven = c.in-Some.proven }) (search (rules, c.recall.ensures)) (search (rules, c.ranges.question.fits))
      c.deref.ensures.value c.deref-2.ensures.value c.in_ok-is_of.ensures.0 (search rules) c.in_ok-proven.ensures (search rules) refl,
)

pub returns-in-None : goal.returns-in-None
returns-in-None c =
    none_read c.args.size c.args.question c.args.bit c.args.text.items c.deref-2.result.now c.in_ok-proven.field-0 c.deref-2.ensures.value
    c.in_ok-proven.ensures (search rules)
