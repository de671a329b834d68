-- Which tasks a command of one name can ask for.
use Rattle.std.proofs.Common.{◌≡◌, List, Option, codes, cond, refl, ap, ap₂, sym, subst, ◌∙◌, Some, None, IfSome, option_map}
use Rattle.std.specs.Str.{bytes_eq}
use Rattle.clap.specs.Walk.{Row, Text}
use Rattle.clap.specs.Matches.{subcommand_name_of}
use Rattle.clap.specs.Simple.{subcommand_rows_of}
use Rattle.clap.specs.declared.parser.matches.ArgMatches.{ArgMatches}
use Rattle.command_line.specs.Tasks.{Hold, IsAskedFor, Names, SaysQuiet, Words, name_of}
use Rattle.command_line.proofs.Reading.{not_none, some_is}
use Rattle.command_line.specs.declared.words.Command.{Command}
use Rattle.command_line.specs.declared.words.Command.TheVariants as commands
use Rattle.command_line.specs.declared.words.Task.{Task}

-- the command of a name
abbrev decoded : Text → Option Command
decoded name =
    cond (bytes_eq name (codes "new-cluster")) (Some commands.NewCluster) (cond (bytes_eq name (codes "init")) (Some commands.Init) (cond (bytes_eq name (codes "check")) (Some commands.Check) (cond (bytes_eq name (codes "run")) (Some commands.Run) (cond (bytes_eq name (codes "propose")) (Some commands.Propose) (cond (bytes_eq name (codes "ask")) (Some commands.Ask) (cond (bytes_eq name (codes "decide")) (Some commands.Decide) (cond (bytes_eq name (codes "status")) (Some commands.Status) (cond (bytes_eq name (codes "transcript")) (Some commands.Transcript) (cond (bytes_eq name (codes "audit")) (Some commands.Audit) (cond (bytes_eq name (codes "gateway")) (Some commands.Gateway) (cond (bytes_eq name (codes "epochs")) (Some commands.Epochs) (cond (bytes_eq name (codes "dump")) (Some commands.Dump) (cond (bytes_eq name (codes "migrate")) (Some commands.Migrate) (cond (bytes_eq name (codes "simulate")) (Some commands.Simulate) (cond (bytes_eq name (codes "rounds")) (Some commands.Rounds) (cond (bytes_eq name (codes "hear")) (Some commands.Hear) (None)))))))))))))))))

decoded_name : (command : Command) → decoded (name_of command) ≡ Some command
decoded_name commands.NewCluster = refl
decoded_name commands.Init = refl
decoded_name commands.Check = refl
decoded_name commands.Run = refl
decoded_name commands.Propose = refl
decoded_name commands.Ask = refl
decoded_name commands.Decide = refl
decoded_name commands.Status = refl
decoded_name commands.Transcript = refl
decoded_name commands.Audit = refl
decoded_name commands.Gateway = refl
decoded_name commands.Epochs = refl
decoded_name commands.Dump = refl
decoded_name commands.Migrate = refl
decoded_name commands.Simulate = refl
decoded_name commands.Rounds = refl
decoded_name commands.Hear = refl

-- no two commands have one name
pub one_of_name : (a b : Command) → name_of a ≡ name_of b → a ≡ b
one_of_name a b same = some_is a a b (sym (decoded_name a) ∙ ap decoded same ∙ decoded_name b)

-- what no words hold for a command, none hold for one that is the same
pub none_hold : (a b : Command) (rows : List Row) → a ≡ b → ((words : Words b) → Hold b rows words → ⊥) → (words : Words a) → Hold a rows words → ⊥
none_hold a b rows same none = subst (λ (k : Command). (words : Words k) → Hold k rows words → ⊥) (sym same) none

-- the name and the rows of the command that was met, each by itself
met_of : (met : Option (Text × List Row)) (name : Text) (rows : List Row) → Some name ≡ option_map (λ (p : Text × List Row). p.0) met
    → Some rows ≡ option_map (λ (p : Text × List Row). p.1) met → met ≡ Some (name, rows)
met_of None name rows is_name is_rows = absurd (not_none name (sym is_name))
met_of (Some p) name rows is_name is_rows =
    ap Some (ap₂ (λ (n : Text) (r : List Row). (n, r)) (some_is p.0 p.0 name (sym is_name)) (some_is p.1 p.1 rows (sym is_rows)))

fused : {X : Type 0} (o : Option X) (f : X → Text) (g : X → List Row) → option_map (λ (p : Text × List Row). p.0) (option_map (λ x. (f x, g x)) o) ≡ option_map f o
fused None f g = refl
fused (Some x) f g = refl

name_in : (m : ArgMatches) → option_map (λ (p : Text × List Row). p.0) (subcommand_rows_of m) ≡ subcommand_name_of m
name_in m = fused _ _ _

-- the command that a parse met
pub met_in : (m : ArgMatches) (name : Text) (rows : List Row) → Some name ≡ subcommand_name_of m
    → Some rows ≡ option_map (λ (p : Text × List Row). p.1) (subcommand_rows_of m) → subcommand_rows_of m ≡ Some (name, rows)
met_in m name rows is_name is_rows = met_of (subcommand_rows_of m) name rows (is_name ∙ sym (name_in m)) is_rows

-- and where it met none
pub none_met : (m : ArgMatches) → None ≡ subcommand_name_of m → (task : Task) → IsAskedFor (subcommand_rows_of m) task → ⊥
none_met m is task asked = not_none _ (is ∙ (sym (name_in m) ∙ ap (option_map (λ (p : Text × List Row). p.0)) asked.is_met))

pub asked : (met : Option (Text × List Row)) (name : Text) (rows : List Row) → met ≡ Some (name, rows) → (task : Option Task)
    → IfSome task (Names name rows) → IfSome task (IsAskedFor met)
asked met name rows is None named = named
asked met name rows is (Some task) named = record { name = name; rows = rows; is_met = is; named = named }

pub not_asked : (met : Option (Text × List Row)) (name : Text) (rows : List Row) → met ≡ Some (name, rows)
    → ((task : Task) → Names name rows task → ⊥) → (task : Task) → IsAskedFor met task → ⊥
not_asked met name rows is none task asked =
    let same : (asked.name, asked.rows) ≡ (name, rows) = some_is (name, rows) (asked.name, asked.rows) (name, rows) (sym asked.is_met ∙ is) in
    none task (subst (λ (p : Text × List Row). Names p.0 p.1 task) same asked.named)

-- where no command was met nothing was given behind it
pub nothing_said : (m : ArgMatches) → None ≡ subcommand_name_of m → SaysQuiet (subcommand_rows_of m) → ⊥
nothing_said m is says = go (subcommand_rows_of m) (is ∙ sym (name_in m)) says
  where
    go : (met : Option (Text × List Row)) → None ≡ option_map (λ (p : Text × List Row). p.0) met → SaysQuiet met → ⊥
    go None e says = says
    go (Some p) e says = not_none p.0 e
