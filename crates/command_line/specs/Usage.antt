-- The command line, command by command, in the kit's words.
use Rattle.std.specs.Prelude.{ℕ, ◌≡◌, true, false, List, [], ◌∷◌, ◌++◌, Some, Result, IfOk, codes, fold, map, pos}
use Rattle.clap.specs.Walk.{Rule, Text}
use Rattle.clap.specs.Simple.{App, Shape, app_of, new_rule, new_shape, with_rule}
use Rattle.clap.specs.declared.builder.action.ArgAction.TheVariants.{SetTrue}
use Rattle.clap.specs.declared.builder.command.Command.{Command}
use Rattle.clap.specs.declared.builder.value_parser.ValueParser.TheVariants as parser

-- a word that must be given
abbrev pub word_rule : Text → Rule
word_rule id = record (new_rule id) { value_names = 1; required = true }

-- an option `--id VALUE` that must be given
abbrev pub number_rule : Text → Rule
number_rule id = record (word_rule id) { long = Some id }

-- a word that may be given
abbrev pub last_rule : Text → Rule
last_rule id = record (new_rule id) { value_names = 1 }

-- an option `--id VALUE` that may be given
abbrev pub option_rule : Text → Rule
option_rule id = record (last_rule id) { long = Some id }

-- an option `--id` with no value
abbrev pub flag_rule : Text → Rule
flag_rule id = record (new_rule id) { long = Some id; action = Some SetTrue }

-- `--quiet`
abbrev pub quiet_rule : Rule
quiet_rule = flag_rule (codes "quiet")

-- `--verbose`
abbrev pub verbose_rule : Rule
verbose_rule = flag_rule (codes "verbose")

-- the value is a number up to `most`
abbrev pub up_to : ℕ → Rule → Rule
up_to most rule = record rule { parser = Some (parser.Signed (pos 0) (pos most)) }

-- the value is a u8, or a u16
abbrev pub as_u8 : Rule → Rule
as_u8 = up_to 255

abbrev pub as_u16 : Rule → Rule
as_u16 = up_to 65535

-- or a u32
abbrev pub as_u32 : Rule → Rule
as_u32 = up_to 4294967295

-- a command that is being built is this one, unless memory was refused
abbrev pub Builds : {E : Type 0} → App → Result Command E → Type 0
Builds app command = IfOk command (λ built. app_of built ≡ app)

-- a command that takes these too
abbrev pub with_rules : App → List Rule → App
with_rules app rules = fold with_rule app rules

-- a command of that name, which takes these
abbrev pub taking : Text → List Rule → App
taking name rules = record { top = record (new_shape name) { rules = rules }; subs = [] }

-- `--n N --t T --questions Q`
abbrev pub size_rules : List Rule
size_rules = as_u16 (number_rule (codes "n")) ∷ as_u16 (number_rule (codes "t")) ∷ as_u16 (number_rule (codes "questions")) ∷ []

-- `ADDRESS`
abbrev pub address_rule : Rule
address_rule = word_rule (codes "address")

-- `ADDRESS Q`
abbrev pub desk_rules : List Rule
desk_rules = address_rule ∷ as_u16 (word_rule (codes "question")) ∷ []

-- `--all`
abbrev pub all_rule : Rule
all_rule = flag_rule (codes "all")

-- and where it must be given
abbrev pub needed_all_rule : Rule
needed_all_rule = record all_rule { required = true }

-- `--json`
abbrev pub json_rule : Rule
json_rule = flag_rule (codes "json")

-- `--timeout S`
abbrev pub timeout_rule : Rule
timeout_rule = option_rule (codes "timeout")

-- `bracha new-cluster --n N --t T --questions Q --cluster C [--port FIRST] [--desk HOST] FOLDER [HOST,HOST,..]`
abbrev pub new_cluster_app : App
new_cluster_app = taking (codes "new-cluster")
    (size_rules ++ as_u32 (number_rule (codes "cluster")) ∷ word_rule (codes "folder") ∷ last_rule (codes "hosts")
    ∷ as_u16 (option_rule (codes "port")) ∷ option_rule (codes "desk") ∷ flag_rule (codes "epochs") ∷ [])

-- `bracha init SETTINGS`
abbrev pub init_app : App
init_app = taking (codes "init") (word_rule (codes "settings") ∷ [])

-- `bracha check [--json] SETTINGS`
abbrev pub check_app : App
check_app = taking (codes "check") (word_rule (codes "settings") ∷ json_rule ∷ [])

-- `bracha run [--stay] [--log] [--log-json] [--any-host] SETTINGS`
abbrev pub run_app : App
run_app = taking (codes "run")
    (word_rule (codes "settings") ∷ flag_rule (codes "stay") ∷ flag_rule (codes "log") ∷ flag_rule (codes "log-json")
    ∷ flag_rule (codes "any-host") ∷ [])

-- `bracha propose [--all] [--timeout S] ADDRESS Q V`
abbrev pub propose_app : App
propose_app = taking (codes "propose")
    (desk_rules ++ as_u8 (word_rule (codes "bit")) ∷ all_rule ∷ timeout_rule ∷ [])

-- `bracha ask [--all] [--wait] [--json] [--timeout S] ADDRESS Q`
abbrev pub ask_app : App
ask_app = taking (codes "ask") (desk_rules ++ all_rule ∷ flag_rule (codes "wait") ∷ json_rule ∷ timeout_rule ∷ [])

-- `bracha decide --all [--json] [--timeout S] FILE Q V`
abbrev pub decide_app : App
decide_app = taking (codes "decide")
    (word_rule (codes "file") ∷ as_u16 (word_rule (codes "question")) ∷ as_u8 (word_rule (codes "bit"))
    ∷ needed_all_rule ∷ json_rule ∷ timeout_rule ∷ [])

-- `bracha status [--all] [--question Q] [--links] [--ready] [--json] [--timeout S] ADDRESS`
abbrev pub status_app : App
status_app = taking (codes "status")
    (address_rule ∷ all_rule ∷ as_u16 (option_rule (codes "question")) ∷ flag_rule (codes "links")
    ∷ flag_rule (codes "ready") ∷ json_rule ∷ timeout_rule ∷ [])

-- `bracha transcript [--all] [--timeout S] ADDRESS Q`
abbrev pub transcript_app : App
transcript_app = taking (codes "transcript") (desk_rules ++ all_rule ∷ timeout_rule ∷ [])

-- `[--n N] [--t T] [--questions Q]`
abbrev pub audited_rules : List Rule
audited_rules = as_u16 (option_rule (codes "n")) ∷ as_u16 (option_rule (codes "t"))
    ∷ as_u16 (option_rule (codes "questions")) ∷ []

-- `bracha audit [--all] [--n N] [--t T] [--questions Q] [--timeout S] FILE [Q]`
abbrev pub audit_app : App
audit_app = taking (codes "audit")
    (word_rule (codes "file") ∷ as_u16 (last_rule (codes "question")) ∷ all_rule
    ∷ audited_rules ++ timeout_rule ∷ [])

-- `bracha gateway [--listen ADDRESS] [--token FILE] FILE`
abbrev pub gateway_app : App
gateway_app = taking (codes "gateway")
    (word_rule (codes "file") ∷ option_rule (codes "listen") ∷ option_rule (codes "token") ∷ [])

-- `bracha epochs [--json] [--timeout S] FILE`
abbrev pub epochs_app : App
epochs_app = taking (codes "epochs") (word_rule (codes "file") ∷ json_rule ∷ timeout_rule ∷ [])

-- `bracha dump [--count] [--json] JOURNAL`
abbrev pub dump_app : App
dump_app = taking (codes "dump") (word_rule (codes "journal") ∷ flag_rule (codes "count") ∷ json_rule ∷ [])

-- `bracha migrate OLD NEW`
abbrev pub migrate_app : App
migrate_app = taking (codes "migrate") (word_rule (codes "old") ∷ word_rule (codes "new") ∷ [])

-- `[--question Q] [--member M] [--from FIRST] [--to LAST]`
abbrev pub choice_rules : List Rule
choice_rules = as_u16 (option_rule (codes "question")) ∷ as_u8 (option_rule (codes "member")) ∷ as_u32 (option_rule (codes "from"))
    ∷ as_u32 (option_rule (codes "to")) ∷ []

-- `[--forever] [--seed S] [--seconds N]`
abbrev pub forever_rules : List Rule
forever_rules = flag_rule (codes "forever") ∷ as_u32 (option_rule (codes "seed"))
    ∷ as_u32 (option_rule (codes "seconds")) ∷ []

-- `bracha simulate [--trace FILE] [--chart FILE] [--page FILE] [--question Q] [--member M] [--from FIRST] [--to LAST] [--forever]
--  [--seed S] [--seconds N] [SCRIPT]`
abbrev pub simulate_app : App
simulate_app = taking (codes "simulate")
    (last_rule (codes "script") ∷ option_rule (codes "trace") ∷ option_rule (codes "chart")
    ∷ option_rule (codes "page") ∷ choice_rules ++ forever_rules)

-- `bracha rounds --n N --t T [--liars L] [--order ORDER] [--seeds K] [--chart FILE]`
abbrev pub rounds_app : App
rounds_app = taking (codes "rounds")
    (as_u16 (number_rule (codes "n")) ∷ as_u16 (number_rule (codes "t"))
    ∷ as_u16 (option_rule (codes "liars")) ∷ option_rule (codes "order")
    ∷ as_u32 (option_rule (codes "seeds")) ∷ option_rule (codes "chart") ∷ [])

-- `bracha hear --n N --t T --questions Q --me M`
abbrev pub hear_app : App
hear_app = taking (codes "hear") (size_rules ++ as_u8 (number_rule (codes "me")) ∷ [])

-- `bracha COMMAND ..`: one command must be given, and help answers no words at all
abbrev pub bare_shape : Shape
bare_shape = record (new_shape (codes "bracha")) {
  has_version = true;
  subcommand_required = true;
  arg_required_else_help = true;
}

abbrev pub bare_app : App
bare_app = record { top = bare_shape; subs = [] }

-- a command, or the program, that takes `--quiet` and `--verbose`
abbrev pub with_telling : App → App
with_telling app = with_rule (with_rule app quiet_rule) verbose_rule

-- the commands, in the order of the help
abbrev pub commands : List App
commands = new_cluster_app ∷ init_app ∷ check_app ∷ run_app ∷ propose_app ∷ ask_app ∷ decide_app
    ∷ status_app ∷ transcript_app ∷ audit_app ∷ gateway_app ∷ epochs_app ∷ dump_app ∷ migrate_app ∷ simulate_app
    ∷ rounds_app ∷ hear_app ∷ []

-- `bracha [--quiet] [--verbose] COMMAND [--quiet] [--verbose] ..`
abbrev pub program_app : App
program_app = record { top = record (with_telling bare_app).top { is_leaf = false }; subs = map (λ command. (with_telling command).top) commands }
