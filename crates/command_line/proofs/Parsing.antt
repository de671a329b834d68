-- What a parse of the program's words gives.
use Rattle.std.proofs.Common.{◌≡◌, ◌∙◌, ap, sym, subst, refl, true, Bool, List, []}
use Rattle.clap.specs.Walk.{Row, Text}
use Rattle.clap.specs.Faults.{fault_of, is_simple_and_free}
use Rattle.clap.specs.Simple.{App, HasMatchesOf, is_simple, matches_of, subcommand_of, subcommand_rows_of}
use Rattle.clap.specs.declared.parser.matches.ArgMatches.{ArgMatches}
use Rattle.command_line.specs.Tasks.{AreQuiet, AskFor, IsAskedFor, AsksForQuiet, rows_in}
use Rattle.command_line.proofs.Demanded.{faultless_asks}
use Rattle.command_line.specs.Usage.{program_app}
use Rattle.command_line.specs.declared.words.Task.{Task}

program_is_simple : is_simple program_app ≡ true
program_is_simple = refl

program_is_free : is_simple_and_free program_app ≡ true
program_is_free = refl

pub is_free : (app : App) → app ≡ program_app → is_simple_and_free app ≡ true
is_free app is = ap is_simple_and_free is ∙ program_is_free

-- the command that was met is the one that the words name
pub met_of_words : (app : App) (words : List Text) (m : ArgMatches) → app ≡ program_app → HasMatchesOf app words m
    → subcommand_rows_of m ≡ subcommand_of program_app words
met_of_words app words m is has =
    (has (ap is_simple is ∙ program_is_simple)).1 ∙ ap (λ (a : App). subcommand_of a words) is

pub asked_by_words : (app : App) (words : List Text) (m : ArgMatches) → app ≡ program_app → HasMatchesOf app words m
    → (task : Task) → IsAskedFor (subcommand_rows_of m) task → AskFor words task
asked_by_words app words m is has task asked = subst (λ met. IsAskedFor met task) (met_of_words app words m is has) asked

-- and so is whether they have `--quiet`
pub quiet_by_words : (app : App) (words : List Text) (m : ArgMatches) (given : Bool) → app ≡ program_app → HasMatchesOf app words m
    → AsksForQuiet (rows_in m) (subcommand_rows_of m) given → AreQuiet words given
quiet_by_words app words m given is has quiet =
    let rows = (has (ap is_simple is ∙ program_is_simple)).0 ∙ ap (λ (a : App). matches_of a words) is in
    let above = subst (λ (found : List Row). AsksForQuiet found (subcommand_rows_of m) given) rows quiet in
    subst (λ met. AsksForQuiet (matches_of program_app words) met given) (met_of_words app words m is has) above

-- the faults are those of the program
pub fault_of_words : (app : App) (words : List Text) → app ≡ program_app → fault_of app words ≡ fault_of program_app words
fault_of_words app words is = ap (λ (a : App). fault_of a words) is

-- a parse that succeeds asks for a task
pub asks_for_one : (app : App) (words : List Text) (m : ArgMatches) → app ≡ program_app → HasMatchesOf app words m → fault_of app words ≡ []
    → ((task : Task) → IsAskedFor (subcommand_rows_of m) task → ⊥) → ⊥
asks_for_one app words m is has faultless none =
    let asked = faultless_asks words (sym (fault_of_words app words is) ∙ faultless) in
    none asked.0 (subst (λ met. IsAskedFor met asked.0) (sym (met_of_words app words m is has)) asked.1)
