use Rattle.std.proofs.Common.{◌≡◌, ◌≤◌, List, [], ◌++◌, length, refl, sym, ◌∙◌, subst, arith, eqb-true}
use Rattle.std.proofs.lemmas.Bool.Decides.{nat_tests}
use Rattle.std.proofs.lemmas.List.{nil_from_length}
use Rattle.terms_prelude.specs.Terms.{Record, Header}
use Rattle.journal.specs.Words.{AreWellFormedFor, IsHeld, IsAtRest, journal_disk, journal_header, journal_gate, journal_is_stopped}
use Rattle.journal.proofs.Held.{left_holds}
use Rattle.journal.proofs.Append.{nothing_added, empty_added, all_or_nothing, now_held}
use Rattle.journal.proofs.journal.Journal.append.Goals as goal

pub returns-then-is_empty-clause-added : goal.returns-then-is_empty-clause-added
unfolding journal_is_stopped
returns-then-is_empty-clause-added g c =
    let none : c.args.records.now ≡ [] = nil_from_length c.args.records.now (eqb-true _ 0 (sym c.is_empty.ensures ∙ c.if-is_empty.true)) in
    empty_added g.D.Disk c.args.self.now c.args.records.now none c.if-self.false

pub returns-then-is_empty-clause-batch : goal.returns-then-is_empty-clause-batch
returns-then-is_empty-clause-batch g c = nothing_added g.D.Disk c.args.self.now c.args.records.now g.met.D.Disk.only_now

pub returns-in-Ok-clause-added : goal.returns-in-Ok-clause-added
unfolding journal_disk journal_header journal_gate journal_is_stopped
returns-in-Ok-clause-added g c =
    let old = c.args.self.now in
    let records : List Record = c.args.records.now in
    let some : 1 ≤ length records = grind (arith, nat_tests) in
    let now = g.D.Disk.state c.add.new.self.disk in
    let held : g.D.Disk.keeps c.add.new.self.disk → (header : Header) (all : List Record) → IsAtRest g.D.Disk.state header all old → IsHeld now header c.add.new.self.gate (all ++ records) =
    λ keeps header all settled.
    now_held (g.D.Disk.state old.tail.disk) header old.tail.gate all settled.held records some c.requires.count
    (subst (λ (h : Header). AreWellFormedFor h records) settled.header_is c.requires.well_formed) now c.add.new.self.gate (c.in-Ok.ensures.done keeps) c.in-Ok.ensures.gate in
    record {
      was_running = c.if-self.false;
      running = c.if-self.false;
      settled = λ keeps header all settled. record { running = c.if-self.false; header_is = settled.header_is; held = held keeps header all settled };
      acknowledged = λ keeps header all settled file may. left_holds now header c.add.new.self.gate (all ++ records) (held keeps header all settled) file may;
      four_calls = λ keeps _. c.in-Ok.ensures.four_calls keeps;
      calls = λ keeps _. c.in-Ok.ensures.calls keeps;
      gate = λ _. c.in-Ok.ensures.gate;
      room = λ _. c.in-Ok.ensures.room;
    }

pub returns-in-Ok-clause-batch : goal.returns-in-Ok-clause-batch
unfolding journal_disk journal_header journal_gate journal_is_stopped
returns-in-Ok-clause-batch g c =
    let some : 1 ≤ length c.args.records.now = grind (arith, nat_tests) in
    all_or_nothing g.D.Disk c.args.self.now c.args.records.now some c.requires.count c.requires.well_formed _ refl c.add.ensures.any_moment c.add.ensures.later c.add.ensures.kept

pub returns-after-matches-clause-batch : goal.returns-after-matches-clause-batch
unfolding journal_disk journal_header journal_gate journal_is_stopped
returns-after-matches-clause-batch g c =
    let some : 1 ≤ length c.args.records.now = grind (arith, nat_tests) in
    all_or_nothing g.D.Disk c.args.self.now c.args.records.now some c.requires.count c.requires.well_formed _ refl c.add.ensures.any_moment c.add.ensures.later c.add.ensures.kept
