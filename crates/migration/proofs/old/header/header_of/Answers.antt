use Rattle.std.proofs.Common.{◌≡◌, ◌≤◌, true, false, refl, sym, ap, ◌∙◌, List, ℕ, get_or, subst}
use Rattle.terms_prelude.specs.Terms.{Size, Header}
use Rattle.journal.proofs.Headers.{same_header}
use Rattle.migration.proofs.OldHeaders.{version_of, from_renewed, into_renewed}
use Rattle.migration.proofs.old.header.header_of.Goals.{in_default-via-in-Some+else-is_old_size, in_default-via-in_default}
use Rattle.migration.proofs.old.header.header_of.Goals as goal

pub returns-then-bytes-ne49-clause-none : goal.returns-then-bytes-ne49-clause-none
returns-then-bytes-ne49-clause-none c none header lawful same =
    c.if-bytes-ne49.true (ap (λ (l : List ℕ). get_or l 7 0) same ∙ version_of header)

pub returns-in-Some-clause-some : goal.returns-in-Some-clause-some
returns-in-Some-clause-some c =
    let is = c.in-Some.ensures.some in
    let within = c.if-is_old_size.ensures.0 refl in
    let narrow : (c.in-Some.header.size.n ≤ 32) × (c.in-Some.header.size.questions ≤ 256) = subst (λ (s : Size). (s.n ≤ 32) × (s.questions ≤ 256)) c.size.ensures within in
    (record { lawful = is.0; members = narrow.0; questions = narrow.1 }, from_renewed c.args.bytes.now c.in-Some.header c.if-bytes-ne49.false is.1)

pub returns-in_default-clause-none : goal.returns-in_default-clause-none
returns-in_default-clause-none c none header lawful same = elim c.in_default.branch [
  | in_default-via-in-Some+else-is_old_size w ↦
      let is = w.in-Some.ensures.some in
      let found : header ≡ w.in-Some.header = same_header header w.in-Some.header lawful.lawful is.0 (sym (into_renewed c.args.bytes.now header same) ∙ is.1) in
      let size : header.size ≡ w.size.result = ap (λ (h : Header). h.size) found ∙ sym w.size.ensures in
      let no : false ≡ true = w.if-is_old_size.ensures.1 (subst (λ (s : Size). (s.n ≤ 32) × (s.questions ≤ 256)) size (lawful.members, lawful.questions)) in
      cc no
  | in_default-via-in_default w ↦ w.in_default.ensures.none refl header lawful.lawful (into_renewed c.args.bytes.now header same)
]
