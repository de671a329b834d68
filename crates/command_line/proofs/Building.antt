-- What `arg` and `subcommand` make of a command, by what is known of its parts.
use Rattle.std.proofs.Common.{arith, ◌≡◌, ◌∙◌, ap, ap₂, Bool, true, false, refl}
use Rattle.std.proofs.Common.{not}
use Rattle.std.proofs.lemmas.Bool.{and_parts}
use Rattle.clap.specs.Walk.{Rule, rule_of, is_simple_arg}
use Rattle.clap.specs.Simple.{App, Shape, app_of, shape_of, with_rule, with_subcommand}
use Rattle.clap.specs.Built.{AddsArg, AddsSubcommand}
use Rattle.clap.specs.declared.builder.arg.Arg.{Arg}
use Rattle.clap.specs.declared.builder.command.Command.{Command}

not_true : (a : Bool) → not a ≡ true → a ≡ false
not_true true e = cc
not_true false e = refl

simple_is_local : (a : Arg) → is_simple_arg a ≡ true → a.global ≡ false
simple_is_local a e = grind (arith, and_parts)

-- a command that is known, with one more argument that is known
pub with_arg : (old : Command) (a : Arg) (new : Command) (app : App) (rule : Rule) → AddsArg old a new
    → app_of old ≡ app → rule_of a ≡ rule → rule.is_simple ≡ true → app_of new ≡ with_rule app rule
with_arg old a new app rule added is_app is_rule simple =
    added.shape (simple_is_local a (ap (λ (r : Rule). r.is_simple) is_rule ∙ simple)) ∙ ap₂ with_rule is_app is_rule

-- and with one more subcommand that is known
pub with_command : (old sub new : Command) (app below : App) → AddsSubcommand old sub new
    → app_of old ≡ app → app_of sub ≡ below → below.top.is_plain ≡ true → app_of new ≡ with_subcommand app below.top
with_command old sub new app below added is_app is_below plain =
    let same : shape_of sub ≡ below.top = ap (λ (a : App). a.top) is_below in
    let is_plain : (shape_of sub).is_plain ≡ true = ap (λ (s : Shape). s.is_plain) same ∙ plain in
    added.shape (grind (arith, and_parts)) ∙ ap₂ with_subcommand is_app same
