use Rattle.std.proofs.Common.{◌≡◌, ◌∙◌, sym, ap, flat_map, map-id, ℕ, List}
use Rattle.std.specs.Str.{chars}
use Rattle.std.proofs.Output.{has_written_of_eq}
use Rattle.std.proofs.lemmas.Iterator.{YieldsList-from_chars}
use Rattle.std.proofs.lemmas.Iterator.Consumers.{YieldsList-end}
use Rattle.commands.specs.Quoting.{char_text}
use Rattle.commands.proofs.quoting.EscapedDisplay.fmt.Goals as goal

pub returns-clause-writes : goal.returns-clause-writes
returns-clause-writes g c plain ok =
    let text = c.as_text-text.result.now in
    let end = YieldsList-end (YieldsList-from_chars text c.as_text-text.utf8 cc) c.loop-character.yielded _ c.loop-character.yielded_by _ _ c.in-None.is c.next.ensures.steps in
    let all : flat_map char_text c.loop-character.yielded ≡ flat_map char_text (chars c.args.self.now.text.now) =
    ap (flat_map char_text) (sym (map-id c.loop-character.yielded) ∙ end.0)
    ∙ ap (λ (t : List ℕ). flat_map char_text (chars t)) c.as_text-text.ensures in
    has_written_of_eq g.W.Write.write_str_gives c.args.f.now _ _ c.loop-character.f all (c.loop-character.invariant plain)
