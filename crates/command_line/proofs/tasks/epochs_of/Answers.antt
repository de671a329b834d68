use Rattle.std.proofs.Common.{rules, sym, ◌∙◌, ◌≡◌, true, false}
use Rattle.command_line.proofs.Reading.{not_none}
use Rattle.command_line.proofs.tasks.epochs_of.Goals as goal

pub returns : goal.returns
returns c = record {
  some = (
    search (rules, sym c.in_ok-text_of.ensures),
    search (rules, c.flag_of.ensures),
    search (rules, sym c.text_of-2.ensures),
  );
  none = λ never. let bad : true ≡ false = never in cc;
}

pub returns-in_err-text_of-clause-none : goal.returns-in_err-text_of-clause-none
returns-in_err-text_of-clause-none c = λ _ words held. not_none _ (c.in_err-text_of.ensures ∙ held.0)
