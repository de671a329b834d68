-- Which task the words of the command line ask for.
use Rattle.std.specs.Prelude.{ℕ, ◌≡◌, ◌⊎◌, ◌<◌, ◌^◌, ◌↔◌, Bool, IsSomeAnd, IsTrue, List, [], Option, Some, codes, option_map}
use Rattle.std.specs.Str.Parse.{IsNumeral, digits_value, without_leading_plus}
use Rattle.clap.specs.Walk.{Row, Text, first_of, one_of, rows_of}
use Rattle.clap.specs.Matches.{found_of}
use Rattle.clap.specs.declared.parser.matches.ArgMatches.{ArgMatches}
use Rattle.clap.specs.Simple.{matches_of, subcommand_of}
use Rattle.clap.specs.Faults.{fault_of}
use Rattle.command_line.specs.Usage.{program_app}
use Rattle.command_line.specs.declared.words.Command.{Command}
use Rattle.command_line.specs.declared.words.Command.TheVariants as commands
use Rattle.command_line.specs.declared.words.Task.{Task}
use Rattle.command_line.specs.declared.words.Task.TheVariants as tasks
use Rattle.command_line.specs.declared.words.NewClusterWords.{NewClusterWords}
use Rattle.command_line.specs.declared.words.InitWords.{InitWords}
use Rattle.command_line.specs.declared.words.CheckWords.{CheckWords}
use Rattle.command_line.specs.declared.words.RunWords.{RunWords}
use Rattle.command_line.specs.declared.words.ProposeWords.{ProposeWords}
use Rattle.command_line.specs.declared.words.AskWords.{AskWords}
use Rattle.command_line.specs.declared.words.DecideWords.{DecideWords}
use Rattle.command_line.specs.declared.words.StatusWords.{StatusWords}
use Rattle.command_line.specs.declared.words.TranscriptWords.{TranscriptWords}
use Rattle.command_line.specs.declared.words.AuditWords.{AuditWords}
use Rattle.command_line.specs.declared.words.GatewayWords.{GatewayWords}
use Rattle.command_line.specs.declared.words.EpochsWords.{EpochsWords}
use Rattle.command_line.specs.declared.words.DumpWords.{DumpWords}
use Rattle.command_line.specs.declared.words.MigrateWords.{MigrateWords}
use Rattle.command_line.specs.declared.words.SimulateWords.{SimulateWords}
use Rattle.command_line.specs.declared.words.RoundsWords.{RoundsWords}
use Rattle.command_line.specs.declared.words.HearWords.{HearWords}

-- the text writes the number in decimal digits, behind a plus or none, and it has at most that many bits
abbrev pub WritesNumber : ℕ → Text → ℕ → Type 0
WritesNumber bits text n = IsNumeral 10 (without_leading_plus text) × (n ≡ digits_value 10 (without_leading_plus text)) × (n < 2 ^ bits)

-- the text that was given for the id
abbrev pub HasText : Text → List Row → Text → Type 0
HasText id rows text = first_of id rows ≡ Some text

-- the text that was given for the id, or none
abbrev pub MayHaveText : Text → List Row → Option Text → Type 0
MayHaveText id rows text = first_of id rows ≡ text

-- the number that was given for the id
abbrev pub HasNumberOption : ℕ → Text → List Row → ℕ → Type 0
HasNumberOption bits id rows n = (text : Text) × (one_of id rows ≡ Some text) × WritesNumber bits text n

-- the number that was given for the id, or none
abbrev pub MayHaveNumber : ℕ → Text → List Row → Option ℕ → Type 0
MayHaveNumber bits id rows number = (n : ℕ) → (number ≡ Some n) ↔ HasNumberOption bits id rows n

-- whether the flag was given
abbrev pub HasFlag : Text → List Row → Bool → Type 0
HasFlag id rows given = IsTrue given ↔ (one_of id rows ≡ Some (codes "true"))

-- the name of a command
abbrev pub name_of : Command → Text
name_of commands.NewCluster = codes "new-cluster"
name_of commands.Init = codes "init"
name_of commands.Check = codes "check"
name_of commands.Run = codes "run"
name_of commands.Propose = codes "propose"
name_of commands.Ask = codes "ask"
name_of commands.Decide = codes "decide"
name_of commands.Status = codes "status"
name_of commands.Transcript = codes "transcript"
name_of commands.Audit = codes "audit"
name_of commands.Gateway = codes "gateway"
name_of commands.Epochs = codes "epochs"
name_of commands.Dump = codes "dump"
name_of commands.Migrate = codes "migrate"
name_of commands.Simulate = codes "simulate"
name_of commands.Rounds = codes "rounds"
name_of commands.Hear = codes "hear"

-- the values of a command's words
abbrev pub Words : Command → Type 0
Words commands.NewCluster = NewClusterWords
Words commands.Init = InitWords
Words commands.Check = CheckWords
Words commands.Run = RunWords
Words commands.Propose = ProposeWords
Words commands.Ask = AskWords
Words commands.Decide = DecideWords
Words commands.Status = StatusWords
Words commands.Transcript = TranscriptWords
Words commands.Audit = AuditWords
Words commands.Gateway = GatewayWords
Words commands.Epochs = EpochsWords
Words commands.Dump = DumpWords
Words commands.Migrate = MigrateWords
Words commands.Simulate = SimulateWords
Words commands.Rounds = RoundsWords
Words commands.Hear = HearWords

-- these are the values of the command's words
abbrev pub Hold : (command : Command) → List Row → Words command → Type 0
Hold commands.NewCluster rows words = HasNumberOption 16 (codes "n") rows words.n × HasNumberOption 16 (codes "t") rows words.t
    × HasNumberOption 16 (codes "questions") rows words.questions × HasNumberOption 32 (codes "cluster") rows words.cluster
    × HasText (codes "folder") rows words.folder.now × MayHaveText (codes "hosts") rows (option_map (λ text. text.now) words.hosts)
    × MayHaveNumber 16 (codes "port") rows words.port × MayHaveText (codes "desk") rows (option_map (λ text. text.now) words.desk)
    × HasFlag (codes "epochs") rows words.epochs
Hold commands.Init rows words = HasText (codes "settings") rows words.settings.now
Hold commands.Check rows words = HasText (codes "settings") rows words.settings.now
    × HasFlag (codes "json") rows words.json
Hold commands.Run rows words = HasText (codes "settings") rows words.settings.now
    × HasFlag (codes "stay") rows words.stay × HasFlag (codes "log") rows words.log × HasFlag (codes "log-json") rows words.log_json
    × HasFlag (codes "any-host") rows words.any_host
Hold commands.Propose rows words = HasText (codes "address") rows words.address.now × HasNumberOption 16 (codes "question") rows words.question
    × HasNumberOption 8 (codes "bit") rows words.bit × HasFlag (codes "all") rows words.all × MayHaveText (codes "timeout") rows (option_map (λ text. text.now) words.timeout)
Hold commands.Ask rows words = HasText (codes "address") rows words.address.now
    × HasNumberOption 16 (codes "question") rows words.question × HasFlag (codes "all") rows words.all × HasFlag (codes "wait") rows words.wait
    × HasFlag (codes "json") rows words.json × MayHaveText (codes "timeout") rows (option_map (λ text. text.now) words.timeout)
Hold commands.Decide rows words = HasText (codes "file") rows words.file.now × HasNumberOption 16 (codes "question") rows words.question
    × HasNumberOption 8 (codes "bit") rows words.bit × HasFlag (codes "json") rows words.json
    × MayHaveText (codes "timeout") rows (option_map (λ text. text.now) words.timeout)
Hold commands.Status rows words = HasText (codes "address") rows words.address.now × HasFlag (codes "all") rows words.all
    × HasFlag (codes "links") rows words.links × HasFlag (codes "ready") rows words.ready
    × HasFlag (codes "json") rows words.json
    × MayHaveText (codes "timeout") rows (option_map (λ text. text.now) words.timeout)
    × MayHaveNumber 16 (codes "question") rows words.question
Hold commands.Transcript rows words = HasText (codes "address") rows words.address.now
    × HasNumberOption 16 (codes "question") rows words.question × HasFlag (codes "all") rows words.all
    × MayHaveText (codes "timeout") rows (option_map (λ text. text.now) words.timeout)
Hold commands.Audit rows words = HasText (codes "file") rows words.file.now × MayHaveNumber 16 (codes "question") rows words.question
    × HasFlag (codes "all") rows words.all × MayHaveNumber 16 (codes "n") rows words.n
    × MayHaveNumber 16 (codes "t") rows words.t × MayHaveNumber 16 (codes "questions") rows words.questions
    × MayHaveText (codes "timeout") rows (option_map (λ text. text.now) words.timeout)
Hold commands.Gateway rows words = HasText (codes "file") rows words.file.now
    × MayHaveText (codes "listen") rows (option_map (λ text. text.now) words.listen)
    × MayHaveText (codes "token") rows (option_map (λ text. text.now) words.token)
Hold commands.Epochs rows words = HasText (codes "file") rows words.file.now
    × HasFlag (codes "json") rows words.json × MayHaveText (codes "timeout") rows (option_map (λ text. text.now) words.timeout)
Hold commands.Dump rows words = HasText (codes "journal") rows words.journal.now
    × HasFlag (codes "count") rows words.count × HasFlag (codes "json") rows words.json
Hold commands.Migrate rows words = HasText (codes "old") rows words.old.now
    × HasText (codes "new") rows words.new.now
Hold commands.Simulate rows words = MayHaveText (codes "script") rows (option_map (λ path. path.now) words.script)
    × MayHaveText (codes "trace") rows (option_map (λ path. path.now) words.trace)
    × MayHaveText (codes "chart") rows (option_map (λ path. path.now) words.chart)
    × MayHaveText (codes "page") rows (option_map (λ path. path.now) words.page)
    × MayHaveNumber 16 (codes "question") rows words.question × MayHaveNumber 8 (codes "member") rows words.member
    × MayHaveNumber 32 (codes "from") rows words.from × MayHaveNumber 32 (codes "to") rows words.to
    × HasFlag (codes "forever") rows words.forever × MayHaveNumber 32 (codes "seed") rows words.seed
    × MayHaveNumber 32 (codes "seconds") rows words.seconds
Hold commands.Rounds rows words = HasNumberOption 16 (codes "n") rows words.n × HasNumberOption 16 (codes "t") rows words.t
    × MayHaveNumber 16 (codes "liars") rows words.liars
    × MayHaveText (codes "order") rows (option_map (λ text. text.now) words.order)
    × MayHaveNumber 32 (codes "seeds") rows words.seeds
    × MayHaveText (codes "chart") rows (option_map (λ path. path.now) words.chart)
Hold commands.Hear rows words = HasNumberOption 16 (codes "n") rows words.n
    × HasNumberOption 16 (codes "t") rows words.t × HasNumberOption 16 (codes "questions") rows words.questions
    × HasNumberOption 8 (codes "me") rows words.me

-- the command of a task
abbrev pub command_of : Task → Command
command_of (tasks.NewCluster words) = commands.NewCluster
command_of (tasks.Init words) = commands.Init
command_of (tasks.Check words) = commands.Check
command_of (tasks.Run words) = commands.Run
command_of (tasks.Propose words) = commands.Propose
command_of (tasks.Ask words) = commands.Ask
command_of (tasks.Decide words) = commands.Decide
command_of (tasks.Status words) = commands.Status
command_of (tasks.Transcript words) = commands.Transcript
command_of (tasks.Audit words) = commands.Audit
command_of (tasks.Gateway words) = commands.Gateway
command_of (tasks.Epochs words) = commands.Epochs
command_of (tasks.Dump words) = commands.Dump
command_of (tasks.Migrate words) = commands.Migrate
command_of (tasks.Simulate words) = commands.Simulate
command_of (tasks.Rounds words) = commands.Rounds
command_of (tasks.Hear words) = commands.Hear

-- and the values of its words
abbrev pub words_of : (task : Task) → Words (command_of task)
words_of (tasks.NewCluster words) = words
words_of (tasks.Init words) = words
words_of (tasks.Check words) = words
words_of (tasks.Run words) = words
words_of (tasks.Propose words) = words
words_of (tasks.Ask words) = words
words_of (tasks.Decide words) = words
words_of (tasks.Status words) = words
words_of (tasks.Transcript words) = words
words_of (tasks.Audit words) = words
words_of (tasks.Gateway words) = words
words_of (tasks.Epochs words) = words
words_of (tasks.Dump words) = words
words_of (tasks.Migrate words) = words
words_of (tasks.Simulate words) = words
words_of (tasks.Rounds words) = words
words_of (tasks.Hear words) = words

-- the command of this name is the task's, and the values of its words are the task's
abbrev pub Names : Text → List Row → Task → Type 0
Names name rows task = (name ≡ name_of (command_of task)) × Hold (command_of task) rows (words_of task)

-- the command that was met, with what was given for its words, asks for the task
pub record IsAskedFor (met : Option (Text × List Row)) (task : Task) : Type 0 where
  pub name : Text
  pub rows : List Row
  pub is_met : met ≡ Some (name, rows)
  pub named : Names name rows task

-- the words ask for the task
abbrev pub AskFor : List Text → Task → Type 0
AskFor words task = IsAskedFor (subcommand_of program_app words) task

-- `--quiet` was given behind the command that was met
abbrev pub SaysQuiet : Option (Text × List Row) → Type 0
SaysQuiet met = IsSomeAnd met (λ found. one_of (codes "quiet") found.1 ≡ Some (codes "true"))

-- whether `--quiet` was given before the command, in these rows, or behind it
abbrev pub AsksForQuiet : List Row → Option (Text × List Row) → Bool → Type 0
AsksForQuiet rows met given = IsTrue given ↔ ((one_of (codes "quiet") rows ≡ Some (codes "true")) ⊎ SaysQuiet met)

-- whether the words have `--quiet`
abbrev pub AreQuiet : List Text → Bool → Type 0
AreQuiet words given = AsksForQuiet (matches_of program_app words) (subcommand_of program_app words) given

-- the kit finds no fault in the words
abbrev pub AreFaultless : List Text → Type 0
AreFaultless words = fault_of program_app words ≡ []

-- what was given
abbrev pub rows_in : ArgMatches → List Row
rows_in matches = rows_of (found_of matches)
