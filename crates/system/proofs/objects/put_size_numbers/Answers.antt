use Rattle.std.proofs.Common.{rules, ◌≡◌, ◌∙◌, ◌++◌, ℕ, List, ap, codes}
use Rattle.std.proofs.lemmas.Result.{on_ok_weaker}
use Rattle.json.specs.Token.{Token}
use Rattle.system.specs.Logs.{members_fields, number_field}
use Rattle.system.proofs.Adding.{joined}
use Rattle.system.proofs.objects.put_size_numbers.Goals as goal

pub returns : goal.returns
returns c =
    let first = c.in_ok-put_members.ensures in
    let same : c.from.result ≡ c.args.questions = search rules in
    let field = ap (λ (n : ℕ). number_field (codes "questions") n) same in
    on_ok_weaker c.put_number.result
    (λ added. (
      added.0 ∙ first.0,
      joined c.args.object.now.tokens _ _ (members_fields c.args.n c.args.t) (number_field (codes "questions") c.from.result) first.1 added.1
          ∙ ap (λ (ts : List Token). c.args.object.now.tokens ++ (members_fields c.args.n c.args.t ++ ts)) field,
    ))
    c.put_number.ensures
