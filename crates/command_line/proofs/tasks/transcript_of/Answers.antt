use Rattle.std.proofs.Common.{rules, refl, sym, ◌∙◌, ◌≡◌, true, false}
use Rattle.command_line.proofs.Reading.{not_none}
use Rattle.command_line.proofs.tasks.transcript_of.Goals as goal

pub returns : goal.returns
returns c = record {
  some = (
    search (rules, sym c.in_ok-text_of.ensures),
    search (rules, (c.in_ok-u16_of.ensures c.in_ok-u16_of.field-0).0 refl),
    search (rules, c.flag_of.ensures),
    search (rules, sym c.text_of-2.ensures),
  );
  none = λ never. let bad : true ≡ false = never in cc;
}

pub returns-in_err-text_of-clause-none : goal.returns-in_err-text_of-clause-none
returns-in_err-text_of-clause-none c = λ _ words held. not_none _ (c.in_err-text_of.ensures ∙ held.0)

pub returns-in_err-u16_of-clause-none : goal.returns-in_err-u16_of-clause-none
returns-in_err-u16_of-clause-none c = λ _ words held. not_none words.question ((c.in_err-u16_of.ensures words.question).1 held.1)
