use Rattle.std.proofs.Common.{rules, sym, ◌≡◌, true, false}
use Rattle.command_line.proofs.tasks.simulate_of.Goals as goal

pub returns : goal.returns
returns c = record {
  some = (
    search (rules, sym c.text_of.ensures),
    search (rules, sym c.text_of-2.ensures),
    search (rules, sym c.text_of-3.ensures),
    search (rules, sym c.text_of-4.ensures),
    search (rules, c.u16_of.ensures),
    search (rules, c.u8_of.ensures),
    search (rules, c.u32_of.ensures),
    search (rules, c.u32_of-2.ensures),
    search (rules, c.flag_of.ensures),
    search (rules, c.u32_of-3.ensures),
    search (rules, c.u32_of-4.ensures),
  );
  none = λ never. let bad : true ≡ false = never in cc;
}
