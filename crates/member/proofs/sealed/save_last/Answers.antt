use Rattle.std.proofs.Common.{◌≡◌, ◌++◌, ◌∙◌, [], ap, refl, sym, subst, List, rules, length, append-nil, take, drop}
use Rattle.std.proofs.lemmas.List.{nil_from_length, take-append-drop}
use Rattle.terms_prelude.specs.Terms.{Record}
use Rattle.member.specs.Words.{Sealed, sealed_from}
use Rattle.journal.specs.Readers.{journal_disk, journal_header, IsAtRest}
use Rattle.member.proofs.Sealing.{goes_on}
use Rattle.member.proofs.Standing.{still}
use Rattle.member.proofs.sealed.save_last.Goals as goal

pub returns-then-is_empty : goal.returns-then-is_empty
returns-then-is_empty g c =
    let front : List Record = take c.args.before c.args.records.now in
    let batch : List Record = drop c.args.before c.args.records.now in
    let none : batch ≡ [] = nil_from_length batch (search rules) in
    let all : c.args.records.now ≡ front ++ batch = sym (take-append-drop c.args.before c.args.records.now) in
    let same : front ≡ front ++ batch = sym (ap (λ (l : List Record). front ++ l) none ∙ append-nil front) in
    let settled : g.D.Disk.keeps (journal_disk c.args.journal.now)
    → IsAtRest g.D.Disk.state (journal_header c.args.journal.now) (front ++ batch) c.args.journal.now =
    λ keeps. subst (λ (l : List Record). IsAtRest g.D.Disk.state (journal_header c.args.journal.now) l c.args.journal.now) same (c.requires.settled keeps) in
    let sealed : c.args.outbox.now.items ≡ sealed_from 0 c.args.records.now = c.requires.sealed ∙ ap (λ (l : List Record). sealed_from 0 l) (same ∙ sym all) in
    search (rules, all, settled, sealed, still g.D.Disk g.met.D.Disk.only_now (journal_header c.args.journal.now) front batch c.args.journal.now)

pub returns-in_err-reserve : goal.returns-in_err-reserve
returns-in_err-reserve g c =
    search (rules, still g.D.Disk g.met.D.Disk.only_now (journal_header c.args.journal.now) (take c.args.before c.args.records.now) (drop c.args.before c.args.records.now) c.args.journal.now)

pub returns : goal.returns
returns g c =
    let front : List Record = take c.args.before c.args.records.now in
    let batch : List Record = drop c.args.before c.args.records.now in
    let all : c.args.records.now ≡ front ++ batch = sym (take-append-drop c.args.before c.args.records.now) in
    let outbox_was : c.reserve.new.self.items ≡ c.args.outbox.now.items = search rules in
    let behind_is : c.behind-last.result.now ≡ batch = c.behind-last.ensures in
    let outbox_is : c.seal.new.outbox.items ≡ c.args.outbox.now.items ++ sealed_from (length c.args.outbox.now.items) batch =
    c.seal.ensures ∙ ap (λ (xs : List Sealed). xs ++ sealed_from (length xs) c.behind-last.result.now) outbox_was
    ∙ ap (λ (l : List Record). c.args.outbox.now.items ++ sealed_from (length c.args.outbox.now.items) l) behind_is in
    let sealed : c.seal.new.outbox.items ≡ sealed_from 0 c.args.records.now =
    goes_on front batch c.args.outbox.now.items _ _ _ c.requires.sealed refl all outbox_is in
    search (rules, all, sealed)
