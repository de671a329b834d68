use Rattle.std.proofs.Common.{ℕ, ◌≡◌, Some, None, Option, sym, ap, ◌∙◌, true≢false}
use Rattle.transcripts.specs.Lines.{head_line}
use Rattle.transcripts.specs.declared.reading.Head.{Head}
use Rattle.transcripts.proofs.reading.question_in.Goals as goal

pub returns-in-Some-clause-exact : goal.returns-in-Some-clause-exact
returns-in-Some-clause-exact c = λ q b n asked few is.
    let found : ◌≡◌ {A = Option Head} (Some c.in-Some.head) (Some (record { question = q; bit = b; count = n })) = c.in-Some.ensures q b n asked few is in
    let same : c.in-Some.head ≡ record { question = q; bit = b; count = n } = cc in
    ap (λ (h : Head). Some h.question) same

pub returns-in_default-clause-exact : goal.returns-in_default-clause-exact
returns-in_default-clause-exact c = λ q b n asked few is.
    let found : ◌≡◌ {A = Option Head} (Some c.in-Some.head) (Some (record { question = q; bit = b; count = n })) = c.in-Some.ensures q b n asked few is in
    let same : c.in-Some.head ≡ record { question = q; bit = b; count = n } = cc in
    let spelled : c.args.line.now ≡ head_line c.in-Some.head.question c.in-Some.head.bit c.in-Some.head.count = is ∙ sym (ap (λ (h : Head). head_line h.question h.bit h.count) same) in
    absurd (true≢false (sym (c.is_spelled.ensures.1 spelled) ∙ c.if-is_spelled.false))

pub returns-in_default-2-clause-exact : goal.returns-in_default-2-clause-exact
returns-in_default-2-clause-exact c = λ q b n asked few is.
    let found : ◌≡◌ {A = Option Head} None (Some (record { question = q; bit = b; count = n })) = c.in_default.ensures q b n asked few is in
    absurd (cc found)

pub returns-in-Some-clause-some : goal.returns-in-Some-clause-some
returns-in-Some-clause-some c = (c.in-Some.head.bit, c.in-Some.head.count, c.is_spelled.ensures.0 c.if-is_spelled.true)
