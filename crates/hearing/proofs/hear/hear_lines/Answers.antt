use Rattle.std.proofs.Common.{◌≡◌, refl, sym, ap, ◌∙◌, subst, ℕ, Bool, Option, Some, List, Result, Ok, Err, length, arith, IfSome}
use Rattle.terms_prelude.specs.Terms.{Size}
use Rattle.hearing.specs.declared.fault.HearFault.{HearFault}
use Rattle.hearing.specs.declared.fault.HearFault.TheVariants as fault
use Rattle.hearing.specs.Pieces.{IsNoPiece}
use Rattle.hearing.specs.Replies.{AnswersInput}
use Rattle.hearing.specs.Keeping.{IsWhole}
use Rattle.hearing.specs.Hears.{WritesReplies}
use Rattle.hearing.proofs.Lines.{nothing_heard, ended, bad_line, one_line, was_read, AreHeard}
use Rattle.hearing.proofs.hear.hear_lines.Goals as goal

-- the number of a line that is named
line_number : (a b : ℕ) → ◌≡◌ {A = Result ℕ HearFault} (Err (fault.Line a)) (Err (fault.Line b)) → a ≡ b
line_number a b h = let e : fault.Line a ≡ fault.Line b = cc in cc

pub loop-number-init : goal.loop-number-init
loop-number-init g c = (
  c.in_ok-session.ensures.sound,
  nothing_heard c.args.size c.args.me (g.R.Read.remaining c.args.input.now) (g.W.Write.contents c.args.output.now) c.in_ok-session.session c.in_ok-session.ensures.start,
)

pub returns-then-branch-eq0-clause-all : goal.returns-then-branch-eq0-clause-all
returns-then-branch-eq0-clause-all g c = (
  refl,
  ended c.args.size c.args.me c.loop-number.number (g.R.Read.remaining c.args.input.now) (g.R.Read.remaining c.loop-number.input)
      (g.W.Write.contents c.args.output.now) (g.W.Write.contents c.loop-number.output) c.loop-number.session c.loop-number.invariant.1
      (c.in_ok-read_until.ensures.end c.if-branch-eq0.true),
)

pub returns-then-not-branch-clause-line : goal.returns-then-not-branch-clause-line
returns-then-not-branch-clause-line g c = λ number same.
    let answer = c.in_ok-answer.ensures in
    let sound = c.loop-number.invariant.0 in
    let read = c.in_ok-read_until.ensures in
    let buffer = c.read_until.new.buf.ok.0 in
    let cleared = c.clear.ensures.len in
    let count = read.ok in
    let len : length c.deref.result.now ≡ c.in_ok-read_until.field-0 = ap (λ (l : List ℕ). length l) c.deref.ensures.value ∙ omega (arith, buffer, cleared, count) in
    let bad = answer.no_piece (ap (λ (b : Bool). Ok b) c.if-not-branch.true) in
    let kept = answer.nothing (ap (λ (b : Bool). Ok b) c.if-not-branch.true) in
    let is : c.loop-number.number ≡ number = line_number c.loop-number.number number same in
    subst (λ k. WritesReplies c.args.size c.args.me (g.R.Read.remaining c.args.input.now) (Some k) (g.W.Write.contents c.args.output.now) (g.W.Write.contents c.answer.new.output)) is
    (bad_line c.args.size c.args.me c.loop-number.number c.in_ok-read_until.field-0
    (g.R.Read.remaining c.args.input.now) (g.R.Read.remaining c.loop-number.input) (g.R.Read.remaining c.read_until.new.self)
    (g.W.Write.contents c.args.output.now) (g.W.Write.contents c.answer.new.output) c.loop-number.session c.deref.result.now c.without_end.result.now
    (subst (λ (o : Option (List ℕ)). IfSome (g.R.Read.remaining c.args.input.now) (λ all.
    AreHeard c.args.size c.args.me all (g.R.Read.remaining c.loop-number.input) c.loop-number.session (g.W.Write.contents c.args.output.now) o c.loop-number.number))
    (sym (ap g.W.Write.contents kept)) c.loop-number.invariant.1)
    (was_read (g.R.Read.remaining c.loop-number.input) (g.R.Read.remaining c.read_until.new.self) c.clear.new.self.items c.read_until.new.buf.items c.deref.result.now
    c.clear.ensures.items c.deref.ensures.value read.bytes read.rest)
    len c.if-branch-eq0.false c.without_end.ensures.ended c.without_end.ensures.last
    (subst (λ (z : Size). IsNoPiece z.n c.without_end.result.now) sound.size_is bad))

pub loop-number-preserved : goal.loop-number-preserved
loop-number-preserved g c =
    let answer = c.in_ok-answer.ensures in
    let sound = c.loop-number.invariant.0 in
    let read = c.in_ok-read_until.ensures in
    let buffer = c.read_until.new.buf.ok.0 in
    let cleared = c.clear.ensures.len in
    let count = read.ok in
    let len : length c.deref.result.now ≡ c.in_ok-read_until.field-0 = ap (λ (l : List ℕ). length l) c.deref.ensures.value ∙ omega (arith, buffer, cleared, count) in
    let yes = ap (λ (b : Bool). Ok b) c.if-not-branch.false in (
      subst (λ (z : Size). IsWhole z c.answer.new.self) sound.size_is (answer.sound yes),
      one_line c.args.size c.args.me c.loop-number.number c.in_ok-read_until.field-0
          (g.R.Read.remaining c.args.input.now) (g.R.Read.remaining c.loop-number.input) (g.R.Read.remaining c.read_until.new.self)
          (g.W.Write.contents c.args.output.now) (g.W.Write.contents c.loop-number.output) (g.W.Write.contents c.answer.new.output)
          c.loop-number.session c.answer.new.self c.deref.result.now c.without_end.result.now
          c.loop-number.invariant.1
          (was_read (g.R.Read.remaining c.loop-number.input) (g.R.Read.remaining c.read_until.new.self) c.clear.new.self.items c.read_until.new.buf.items c.deref.result.now
          c.clear.ensures.items c.deref.ensures.value read.bytes read.rest)
          len c.if-branch-eq0.false c.without_end.ensures.ended c.without_end.ensures.last
          (λ h at.
          let a = answer.answers yes h at in
          (a.0, a.1, subst (λ (z : Size). AnswersInput z h c.without_end.result.now a.0 a.1) sound.size_is a.2, a.3, a.4)),
    )
