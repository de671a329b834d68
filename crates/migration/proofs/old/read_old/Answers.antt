use Rattle.std.proofs.Common.{refl, sym, ◌∙◌, subst, arith}
use Rattle.terms_prelude.specs.Terms.{Header}
use Rattle.migration.specs.Words.{MigrateFault, IsOfOldFile, RefusesOld}
use Rattle.journal.proofs.Headers.{by_same}
use Rattle.migration.proofs.OldOpened.{front_of, header_long, begins_with, begins_with_same, held_from, read_good, refused_from}
use Rattle.migration.proofs.old.read_old.Goals as goal

pub returns-in_default-clause-refused : goal.returns-in_default-clause-refused
returns-in_default-clause-refused c of_file header has =
    omega (arith, header_long header c.args.bytes.now has, c.in_default.ensures.cases)

pub returns-in-Some-2-clause-refused : goal.returns-in-Some-2-clause-refused
returns-in-Some-2-clause-refused c of_file =
    let found : Header = c.in-Some-header_of.found in (
      found,
      begins_with found c.in-Some.front.now c.args.bytes.now c.in-Some-header_of.ensures.some.0 c.in-Some-header_of.ensures.some.1 c.in-Some.ensures.cases.0,
      λ same. cc (by_same found c.args.header.now same, c.eq.ensures, c.if-eq.false),
    )

pub returns-in-None-clause-refused : goal.returns-in-None-clause-refused
returns-in-None-clause-refused c of_file header has =
    c.in-None.ensures.none refl header has.lawful (c.in-Some.ensures.cases.0 ∙ front_of header c.args.bytes.now has)

pub returns-in-Ok-clause-held : goal.returns-in-Ok-clause-held
returns-in-Ok-clause-held c =
    let has = begins_with_same c.in-Some-header_of.found c.args.header.now c.in-Some.front.now c.args.bytes.now c.in-Some-header_of.ensures.some.0 c.in-Some-header_of.ensures.some.1 c.in-Some.ensures.cases.0 (sym c.eq.ensures ∙ c.if-eq.true) in
    held_from c.args.bytes.now c.in-Some.behind.now c.args.header.now c.in-Ok.field-0-0 c.in-Ok.records.items has c.in-Some.ensures.cases.1 c.in-Ok.ensures.held

pub returns-in-Ok-clause-well_formed : goal.returns-in-Ok-clause-well_formed
returns-in-Ok-clause-well_formed c =
    read_good c.args.header.now c.in-Some.behind.now c.in-Ok.field-0-0 c.in-Ok.records.items c.in-Ok.ensures.held

pub returns-in-Err-clause-refused : goal.returns-in-Err-clause-refused
returns-in-Err-clause-refused c =
    let has = begins_with_same c.in-Some-header_of.found c.args.header.now c.in-Some.front.now c.args.bytes.now c.in-Some-header_of.ensures.some.0 c.in-Some-header_of.ensures.some.1 c.in-Some.ensures.cases.0 (sym c.eq.ensures ∙ c.if-eq.true) in
    subst (λ (f : MigrateFault). IsOfOldFile f → RefusesOld c.args.header.now f c.args.bytes.now) (sym c.old_fault.ensures)
    (refused_from c.args.bytes.now c.in-Some.behind.now c.args.header.now c.in-Err.fault has c.in-Some.ensures.cases.1 c.in-Err.ensures.refused)
