use Rattle.std.proofs.Common.{rules, refl, sym, ◌≡◌, true, false}
use Rattle.command_line.proofs.Reading.{not_none}
use Rattle.command_line.proofs.tasks.rounds_of.Goals as goal

pub returns : goal.returns
returns c = record {
  some = (
    search (rules, (c.in_ok-u16_of.ensures c.in_ok-u16_of.field-0).0 refl),
    search (rules, (c.in_ok-u16_of-2.ensures c.in_ok-u16_of-2.field-0).0 refl),
    search (rules, c.u16_of-3.ensures),
    search (rules, sym c.text_of.ensures),
    search (rules, c.u32_of.ensures),
    search (rules, sym c.text_of-2.ensures),
  );
  none = λ never. let bad : true ≡ false = never in cc;
}

pub returns-in_err-u16_of-clause-none : goal.returns-in_err-u16_of-clause-none
returns-in_err-u16_of-clause-none c = λ _ words held. not_none words.n ((c.in_err-u16_of.ensures words.n).1 held.0)

pub returns-in_err-u16_of-2-clause-none : goal.returns-in_err-u16_of-2-clause-none
returns-in_err-u16_of-2-clause-none c = λ _ words held. not_none words.t ((c.in_err-u16_of-2.ensures words.t).1 held.1)
