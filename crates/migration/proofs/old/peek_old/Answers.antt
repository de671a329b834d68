use Rattle.std.proofs.Common.{◌≡◌, refl, ◌∙◌, ap, arith}
use Rattle.disk.specs.Model.{State}
use Rattle.journal.proofs.Opened.{filled}
use Rattle.migration.proofs.OldOpened.{front_of, header_long, begins_with}
use Rattle.migration.proofs.old.peek_old.Goals as goal

pub returns-then-len-lt-HEADER-clause-not_old : goal.returns-then-len-lt-HEADER-clause-not_old
returns-then-len-lt-HEADER-clause-not_old g c keeps bad header has =
    omega (arith, header_long header (g.D.Disk.state c.args.disk.now).seen has, c.if-len-lt-HEADER.true, c.in_ok-len.ensures.answer (c.read_at.ensures.kept keeps))

pub returns-in-Some-clause-header : goal.returns-in-Some-clause-header
returns-in-Some-clause-header g c keeps =
    let read = c.in_ok-read_at.ensures.answer keeps in
    let all : c.min.result ≡ 24 = omega (arith, c.min.ensures, c.if-len-lt-HEADER.false) in
    let same = ap (λ (s : State). s.seen) (c.len.ensures.same (c.read_at.ensures.kept keeps)) in
    begins_with c.in-Some.header _ (g.D.Disk.state c.args.disk.now).seen c.in-Some.ensures.some.0 c.in-Some.ensures.some.1 (filled _ c.read_at.new.buf _ _ c.min.result refl all read same)

pub returns-in-None-clause-not_old : goal.returns-in-None-clause-not_old
returns-in-None-clause-not_old g c keeps bad header has =
    let read = c.in_ok-read_at.ensures.answer keeps in
    let all : c.min.result ≡ 24 = omega (arith, c.min.ensures, c.if-len-lt-HEADER.false) in
    let same = ap (λ (s : State). s.seen) (c.len.ensures.same (c.read_at.ensures.kept keeps)) in
    c.in-None.ensures.none refl header has.lawful (filled _ c.read_at.new.buf _ _ c.min.result refl all read same ∙ front_of header (g.D.Disk.state c.args.disk.now).seen has)
