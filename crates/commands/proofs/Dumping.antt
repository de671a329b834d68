-- The pieces of a dump's lines.
use Rattle.std.proofs.Common.{ℕ, ◌≡◌, ◌⊎◌, inl, inr, Option, None, Some, refl, sym, ap, ◌∙◌, subst, append_assoc, codes, List, ◌++◌}
use Rattle.std.specs.Fmt.{decimal}
use Rattle.std.specs.Io.KnownBytes.{Appends}
use Rattle.std.proofs.lemmas.List.Concat.{flat_map-append}
use Rattle.terms_prelude.specs.Terms.{Record, Header}
use Rattle.journal.specs.declared.fault.JournalFault.{JournalFault}
use Rattle.journal.specs.declared.fault.JournalFault.TheVariants as unheld
use Rattle.journal.specs.Words.{IsOfFile, IsFaultOfOpening, HasHeader, IsOldVersion, RefusesFile}
use Rattle.journal.specs.Faults.{IsFaultOfPeek}
use Rattle.journal.proofs.One.{one_header}
use Rattle.commands.specs.declared.dump.Form.{Form}
use Rattle.commands.specs.declared.dump.Form.TheVariants.{Lines, Objects}
use Rattle.commands.specs.declared.fault.DumpFault.{DumpFault}
use Rattle.commands.specs.declared.fault.DumpFault.TheVariants as dump
use Rattle.commands.specs.Faults.{IsOfDump, IsOfPrint}
use Rattle.commands.specs.Dumps.{IsUnreadable, header_line, record_line, records_text}
use Rattle.commands.specs.Objects.{record_object}

pub header_pieces : (h : Header) (cluster n t questions me : ℕ) → cluster ≡ h.cluster → n ≡ h.size.n → t ≡ h.size.t → questions ≡ h.size.questions → me ≡ h.me
    → codes "cluster " ++ (decimal cluster ++ (codes " n " ++ (decimal n ++ (codes " t " ++ (decimal t
    ++ (codes " questions " ++ (decimal questions ++ (codes " me " ++ (decimal me ++ codes "\n"))))))))) ≡ header_line h
header_pieces h cluster n t questions me a b c d e = rw (a, b, c, d, e) (simp append_assoc)

-- what opening found wrong is wrong with a file that begins with the header, but for want of memory
pub unreadable : (header : Header) (why : JournalFault) (file : List ℕ) → HasHeader header file → (IsOfFile why → RefusesFile header why file) → IsFaultOfOpening why
    → (why ≡ unheld.Memory) ⊎ IsUnreadable why file
unreadable header unheld.NotEmpty file has found of = absurd of
unreadable header unheld.BadHeader file has found of = inr (found tt)
unreadable header unheld.OtherHeader file has found of = let r = found tt in absurd (r.2 (one_header r.0 header file r.1 has))
unreadable header unheld.BadRecord file has found of = inr (header, found tt)
unreadable header unheld.CutShort file has found of = inr (header, found tt)
unreadable header unheld.Device file has found of = inr tt
unreadable header unheld.Memory file has found of = inl refl
unreadable header unheld.Stopped file has found of = absurd of
unreadable header unheld.Full file has found of = absurd of
unreadable header unheld.OldVersion file has found of = inr (found tt)

-- what reading the header alone answers
pub headless : (why : JournalFault) (file : List ℕ) → IsFaultOfPeek why → (why ≡ unheld.BadHeader → (header : Header) → HasHeader header file → ⊥)
    → (why ≡ unheld.BadHeader → IsOldVersion file → ⊥) → (why ≡ unheld.OldVersion → IsOldVersion file) → IsUnreadable why file
headless unheld.NotEmpty file of none new old = of
headless unheld.BadHeader file of none new old = (none refl, new refl)
headless unheld.OtherHeader file of none new old = of
headless unheld.BadRecord file of none new old = absurd of
headless unheld.CutShort file of none new old = absurd of
headless unheld.Device file of none new old = tt
headless unheld.Memory file of none new old = of
headless unheld.Stopped file of none new old = of
headless unheld.Full file of none new old = of
headless unheld.OldVersion file of none new old = old refl

-- what is written, and what is written behind it
pub appends_more : (a b c : Option (List ℕ)) (x y : List ℕ) → Appends a b x → Appends b c y → Appends a c (x ++ y)
appends_more None b c x y one two = tt
appends_more (Some a) None c x y one two = absurd one
appends_more (Some a) (Some b) None x y one two = absurd two
appends_more (Some a) (Some b) (Some c) x y one two = two ∙ ap (λ (l : List ℕ). l ++ y) one ∙ append_assoc a x y

-- the text of records, and that of others behind them
pub records_text-append : (form : Form) (records more : List Record) → records_text form (records ++ more) ≡ records_text form records ++ records_text form more
records_text-append Lines records more = flat_map-append record_line records more
records_text-append Objects records more = flat_map-append record_object records more

-- a write that failed, or memory that was refused, is no fault of a journal, and is one of a dump
pub no_journal : (ends : DumpFault) (named : JournalFault) → IsOfPrint ends → ends ≡ dump.Journal named → ⊥
no_journal ends named (inl memory) is = let bad : dump.Memory ≡ dump.Journal named = sym memory ∙ is in cc bad
no_journal ends named (inr stream) is = let bad : dump.Stream ≡ dump.Journal named = sym stream ∙ is in cc bad

pub dump_of_print : (ends : DumpFault) → IsOfPrint ends → IsOfDump ends
dump_of_print ends (inl memory) = subst (λ (e : DumpFault). IsOfDump e) (sym memory) tt
dump_of_print ends (inr stream) = subst (λ (e : DumpFault). IsOfDump e) (sym stream) tt
