use Rattle.std.proofs.Common.{◌≡◌, ℕ, Option, Some, None, rules, refl}
use Rattle.desk.proofs.Words.{no_proposal, question_at, word_at}
use Rattle.desk.proofs.line.proposal.Goals as goal

-- no space
pub returns-in_default-clause-exact : goal.returns-in_default-clause-exact
returns-in_default-clause-exact c = λ question bit p. absurd (no_proposal c.args.text.now question bit c.in_default.ensures p)

-- no question before it
pub returns-in_default-question-clause-exact : goal.returns-in_default-question-clause-exact
returns-in_default-question-clause-exact c = λ question bit p.
    let there : ◌≡◌ {A = Option ℕ} None (Some question) =
    c.in_default-question.ensures.exact question (question_at c.args.text.now c.in-Some.digits.now c.in-Some.word.now question bit c.in-Some.ensures.0 c.in-Some.ensures.1 p) in
    absurd (cc)

pub returns-then-is_word-clause-exact : goal.returns-then-is_word-clause-exact
returns-then-is_word-clause-exact c = λ question bit p.
    let there : ◌≡◌ {A = Option ℕ} (Some c.in-Some-question.question) (Some question) =
    c.in-Some-question.ensures.exact question (question_at c.args.text.now c.in-Some.digits.now c.in-Some.word.now question bit c.in-Some.ensures.0 c.in-Some.ensures.1 p) in
    let same : c.in-Some-question.question ≡ question = cc in
    let bits : c.bit.result ≡ bit = c.bit.ensures.exact bit (word_at c.args.text.now c.in-Some.digits.now c.in-Some.word.now question bit c.in-Some.ensures.0 c.in-Some.ensures.1 p).1 in
    rw (same, bits) refl

-- no word behind it
pub returns-else-is_word-clause-exact : goal.returns-else-is_word-clause-exact
returns-else-is_word-clause-exact c = λ question bit p.
    let word = (word_at c.args.text.now c.in-Some.digits.now c.in-Some.word.now question bit c.in-Some.ensures.0 c.in-Some.ensures.1 p).0 in
    let yes = c.is_word.ensures.1 word in
    search (rules, yes, c.if-is_word.false)
