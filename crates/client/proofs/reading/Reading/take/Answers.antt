use Rattle.std.proofs.Common.{◌≡◌, ◌∙◌, sym, ap, subst, rules, false, Bool, Option, None, Some, option_map, ◌++◌, ◌∷◌, []}
use Rattle.terms_prelude.specs.Terms.{Value, plain}
use Rattle.votes.specs.Votes.{value_of}
use Rattle.client.specs.Readings.{DecidesBy, Reads, first_word}
use Rattle.client.proofs.Told.{decides_again, decides_more, first_again, told_nothing, told_something, votes_more, vote_fits}
use Rattle.client.proofs.reading.Reading.take.Goals as goal

pub returns-then-is_none-clause-words : goal.returns-then-is_none-clause-words
unfolding Reads
returns-then-is_none-clause-words c = λ yes words stands.
    let none : ◌≡◌ {A = Option Value} c.value.result None = search (rules, c.if-is_none.true, c.is_none.ensures) in
    let free : value_of false c.args.self.now.votes c.args.member ≡ None = sym c.value.ensures ∙ none in
    let told : first_word words c.args.member ≡ None = told_nothing (first_word words c.args.member) (sym (stands.votes c.args.member) ∙ free) in
    let more = votes_more words c.args.member c.args.bit c.args.self.now.votes c.with-self.result stands.votes
    (vote_fits c.args.self.now.votes c.with-self.result c.args.member c.args.bit c.vote.result c.vote.ensures free c.with-self.ensures.first) in
    record {
      votes = more;
      decides = subst (λ (d : Option Bool). DecidesBy c.args.self.now.size (words ++ (c.args.member, c.args.bit) ∷ []) d) (sym c.decision_with-self.ensures)
          (decides_more c.args.self.now.size words c.args.member c.args.bit c.with-self.result c.args.self.now.decision told more stands.decides);
    }

pub returns-else-is_none-clause-words : goal.returns-else-is_none-clause-words
unfolding Reads
returns-else-is_none-clause-words c = λ yes words stands.
    let some : (v : Value) × ◌≡◌ {A = Option Value} c.value.result (Some v) = search (rules, c.if-is_none.false, c.is_none.ensures) in
    let told = told_something (first_word words c.args.member) some.0 (sym (stands.votes c.args.member) ∙ sym c.value.ensures ∙ some.1) in
    let again = first_again words c.args.member c.args.bit told.0 told.1 in
    record {
      votes = λ m. stands.votes m ∙ ap (λ (x : Option Bool). option_map plain x) (sym (again m));
      decides = decides_again c.args.self.now.size words c.args.member c.args.bit c.args.self.now.decision again stands.decides;
    }
