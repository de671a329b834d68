use Rattle.std.proofs.Common.{◌∙◌, ap}
use Rattle.std.specs.List.{flat_map}
use Rattle.commands.specs.Checks.{peer_line}
use Rattle.report.proofs.Wording.{written_as}
use Rattle.commands.proofs.Checking.{settings_pieces}
use Rattle.commands.proofs.check.settings_text.Goals as goal

pub returns : goal.returns
returns c =
    written_as c.format.result _ _
    (settings_pieces c.args.settings.now _ _ _ _ _ c.in_ok-header_line.ensures c.in_ok-path_text.ensures
    (c.in_ok-peer_lines.ensures ∙ ap (flat_map peer_line) c.deref.ensures.value) c.in_ok-address_text.ensures c.in_ok-options_lines.ensures)
    c.format.ensures.ok
