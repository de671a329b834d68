-- Words in which the kit finds no fault ask for a task: the parser has demanded each of its values.
use Rattle.std.proofs.Common.{◌≡◌, ◌∙◌, ◌↔◌, ◌⊎◌, ◌<◌, ◌^◌, ◌&&◌, ◌==◌, ℕ, Bool, cond, not, true, false, refl, ap, sym, subst, inl, inr, arith, List, [], ◌∷◌, drop, codes, is_some, Option, Some, None, true≢false, ◌||◌, IfSome, find, option_map, pos, unwrap_or, ne_eqb}
use Rattle.std.specs.Prelude.{⊤}
use Rattle.std.specs.Option.{option_map_or}
use Rattle.std.specs.Borrow.{Bor}
use Rattle.std.specs.Str.{bytes_eq}
use Rattle.std.specs.Str.Parse.{IsNumeral, digits_value, starts_with_minus, without_leading_plus}
use Rattle.std.proofs.lemmas.Int.{ints}
use Rattle.std.specs.Bool.{Decides}
use Rattle.std.proofs.lemmas.Str.Parse.{digit_from_value}
use Rattle.std.proofs.lemmas.Slice.Eq.{bytes_eq-Decides}
use Rattle.clap.specs.Lexer.{without_minus}
use Rattle.clap.specs.Values.{IsSignedIn}
use Rattle.clap.specs.ValueTests.{is_signed_in}
use Rattle.clap.specs.Walk.{Held, Row, Text, answers_to, first_of, nothing_held, one_of, rows_after, finished, settled, walk, walk_from}
use Rattle.clap.specs.Simple.{App, Shape, argument_words, built, entered, label_of, names_of, rows_at}
use Rattle.clap.specs.Faults.{built_fault, check_fault, defaults_fault, entered_fault, level_fault, other_fault, settle_fault, walk_fault}
use Rattle.clap.specs.Kinds.{or_else}
use Rattle.clap.proofs.ValueTestLemmas.{accepts-Accepts}
use Rattle.clap.specs.declared.error.kind.ErrorKind.TheVariants.{DisplayHelp, InvalidSubcommand}
use Rattle.clap.specs.declared.builder.value_parser.ValueParser.TheVariants as parser
use Rattle.command_line.specs.Usage.{program_app, new_cluster_app, init_app, check_app, run_app, propose_app, ask_app, decide_app, status_app, transcript_app, audit_app, gateway_app, epochs_app, dump_app, migrate_app, simulate_app, rounds_app, hear_app}
use Rattle.command_line.specs.Tasks.{AreFaultless, AskFor, HasFlag, HasNumberOption, IsAskedFor, MayHaveNumber, MayHaveText, Names as NamesTask, WritesNumber}
use Rattle.command_line.specs.declared.words.Task.{Task}
use Rattle.command_line.specs.declared.words.Task.TheVariants as tasks
use Rattle.command_line.proofs.Walking.{StopOk, left_of, not_some, right_of, same_under, walk_ok}
use Rattle.command_line.proofs.Given.{IsSolid, given_in, perhaps_in, second_none}

-- ---- numbers

no_plus : (ds : Text) → IsNumeral 10 ds → without_leading_plus ds ≡ ds
no_plus [] h = refl
no_plus (d ∷ ds) h =
    let plus : (d == 43) ≡ false = ne_eqb _ _ (λ e. omega (arith, digit_from_value d h.1.0)) in
    ap (λ (b : Bool). drop (cond b 1 0) (d ∷ ds)) plus

minus_dropped : (t : Text) → without_minus t ≡ cond (starts_with_minus t) (drop 1 t) t
minus_dropped [] = refl
minus_dropped (x ∷ xs) = go (x == 45)
  where
    go : (b : Bool) → unwrap_or (cond b (Some xs) None) (x ∷ xs) ≡ cond b xs (x ∷ xs)
    go true = refl
    go false = refl

-- a text that passes as a number up to `most` writes one
writes_one : (bits most : ℕ) (t : Text) → most < 2 ^ bits → IsSignedIn (pos 0) (pos most) t → (n : ℕ) × WritesNumber bits (without_minus t) n
writes_one bits most t fits passed = subst (λ (u : Text). (n : ℕ) × WritesNumber bits u n) (sym (minus_dropped t)) (go (starts_with_minus t) refl)
  where
    go : (b : Bool) → starts_with_minus t ≡ b → (n : ℕ) × WritesNumber bits (cond b (drop 1 t) t) n
    go true minus =
        let low_ok = rw minus at passed.2 in
        let numeral : IsNumeral 10 (drop 1 t) = rw minus at passed.0 in
        let same = no_plus (drop 1 t) numeral in
        let small : digits_value 10 (drop 1 t) < 2 ^ bits = omega (arith, ints) in
        (digits_value 10 (drop 1 t), (subst (IsNumeral 10) (sym same) numeral, ap (digits_value 10) (sym same), small))
    go false minus =
        let high_ok = rw minus at passed.3 in
        let numeral : IsNumeral 10 (without_leading_plus t) = rw minus at passed.0 in
        let small : digits_value 10 (without_leading_plus t) < 2 ^ bits = omega (arith, ints) in
        (digits_value 10 (without_leading_plus t), (numeral, refl, small))

has_number : (bits most : ℕ) (id : Text) (rows : List Row) → most < 2 ^ bits
    → (v : Text) × (first_of id rows ≡ Some v) × (one_of id rows ≡ Some (without_minus v)) × (is_signed_in (pos 0) (pos most) v ≡ true)
    → (n : ℕ) × HasNumberOption bits id rows n
has_number bits most id rows fits given =
    let n = writes_one bits most given.0 fits (accepts-Accepts false (parser.Signed (pos 0) (pos most)) given.0 given.3) in
    (n.0, (without_minus given.0, given.2, n.1))

-- where it was given, or where it wasn't, there is a number or none
may_have : (bits most : ℕ) (id : Text) (rows : List Row) → most < 2 ^ bits
    → ((v : Text) × (first_of id rows ≡ Some v) × (one_of id rows ≡ Some (without_minus v)) × (is_signed_in (pos 0) (pos most) v ≡ true)) ⊎ (one_of id rows ≡ None)
    → (number : Option ℕ) × MayHaveNumber bits id rows number
may_have bits most id rows fits (inr none) =
    (None, λ n. ((λ is. absurd (not_some n is)), (λ given. absurd (not_some given.0 (sym none ∙ given.1)))))
may_have bits most id rows fits (inl given) =
    let number = has_number bits most id rows fits given in (
      Some number.0,
      λ n. (
        (λ is. subst (HasNumberOption bits id rows) (same_under number.0 number.0 n is) number.1),
        (λ other.
            let same : number.1.0 ≡ other.0 = same_under number.1.0 number.1.0 other.0 (sym number.1.1 ∙ other.1) in
            ap Some (number.1.2.1 ∙ (ap (λ (t : Text). digits_value 10 (without_leading_plus t)) same ∙ sym other.2.1))),
      ),
    )

-- ---- the commands

-- a text in some place
abbrev at_some_place : Text → Bor Text
at_some_place text = record { ref_ptr = (0, 0); now = text }

-- whether a flag was given, and a text that may be given
flag_in : (id : Text) (rows : List Row) → (given : Bool) × HasFlag id rows given
flag_in id rows = go (one_of id rows)
  where
    go : (met : Option Text) → (given : Bool) × ((given ≡ true) ↔ (met ≡ Some (codes "true")))
    go None = (false, ((λ e. cc), (λ e. cc)))
    go (Some text) = pick (bytes_eq text (codes "true")) (bytes_eq-Decides text (codes "true"))
      where
        pick : (b : Bool) → Decides b (text ≡ codes "true") → (given : Bool) × ((given ≡ true) ↔ (Some text ≡ Some (codes "true")))
        pick b decides = (b, ((λ e. ap Some (decides.0 e)), (λ e. decides.1 (same_under text text (codes "true") e))))

text_in : (id : Text) (rows : List Row) → (text : Option (Bor Text)) × MayHaveText id rows (option_map (λ path. path.now) text)
text_in id rows = go (first_of id rows)
  where
    go : (met : Option Text) → (text : Option (Bor Text)) × (met ≡ option_map (λ path. path.now) text)
    go None = (None, refl)
    go (Some text) = (Some (at_some_place text), refl)

-- the commands with their rules as they are built
abbrev built_at : App → Shape
built_at app = unwrap_or (find (λ s. bytes_eq s.name app.top.name) (built program_app).subs) app.top

abbrev Below : Shape → List Text → Type 0
Below s words = (task : Task) × NamesTask s.name (rows_after s.rules [] words) task

abbrev Demanding : App → Type 0
Demanding app = (words : List Text) → level_fault (built_at app) [] nothing_held words false [] ≡ [] → Below (built_at app) words

new_cluster_demands : Demanding new_cluster_app
new_cluster_demands words e =
    let solid : IsSolid (built_at new_cluster_app) = record { each = refl; apart = refl; demands = refl } in
    let rows = rows_after (built_at new_cluster_app).rules [] words in
    let n = has_number 16 65535 (codes "n") rows (omega arith) (given_in (built_at new_cluster_app) words solid e _ (inl refl) refl) in
    let t = has_number 16 65535 (codes "t") rows (omega arith) (given_in (built_at new_cluster_app) words solid e _ (inr (inl refl)) refl) in
    let questions = has_number 16 65535 (codes "questions") rows (omega arith) (given_in (built_at new_cluster_app) words solid e _ (inr (inr (inl refl))) refl) in
    let cluster = has_number 32 4294967295 (codes "cluster") rows (omega arith) (given_in (built_at new_cluster_app) words solid e _ (inr (inr (inr (inl refl)))) refl) in
    let folder = given_in (built_at new_cluster_app) words solid e _ (inr (inr (inr (inr (inl refl))))) refl in
    let hosts = text_in (codes "hosts") rows in
    let port = may_have 16 65535 (codes "port") rows (omega arith) (perhaps_in (built_at new_cluster_app) words solid e _ (inr (inr (inr (inr (inr (inr (inl refl)))))))) in
    let desk = text_in (codes "desk") rows in
    let epochs = flag_in (codes "epochs") rows in (
      tasks.NewCluster (record { n = n.0; t = t.0; questions = questions.0; cluster = cluster.0; folder = at_some_place folder.0; hosts = hosts.0; port = port.0; desk = desk.0; epochs = epochs.0 }),
      (refl, (n.1, t.1, questions.1, cluster.1, folder.1, hosts.1, port.1, desk.1, epochs.1)),
    )

init_demands : Demanding init_app
init_demands words e =
    let solid : IsSolid (built_at init_app) = record { each = refl; apart = refl; demands = refl } in
    let settings = given_in (built_at init_app) words solid e _ (inl refl) refl in
    (tasks.Init (record { settings = at_some_place settings.0 }), (refl, settings.1))

check_demands : Demanding check_app
check_demands words e =
    let solid : IsSolid (built_at check_app) = record { each = refl; apart = refl; demands = refl } in
    let settings = given_in (built_at check_app) words solid e _ (inl refl) refl in
    let json = flag_in (codes "json") (rows_after (built_at check_app).rules [] words) in
    (tasks.Check (record { settings = at_some_place settings.0; json = json.0 }), (refl, (settings.1, json.1)))

run_demands : Demanding run_app
run_demands words e =
    let solid : IsSolid (built_at run_app) = record { each = refl; apart = refl; demands = refl } in
    let settings = given_in (built_at run_app) words solid e _ (inl refl) refl in
    let stay = flag_in (codes "stay") (rows_after (built_at run_app).rules [] words) in
    let log = flag_in (codes "log") (rows_after (built_at run_app).rules [] words) in
    let log_json = flag_in (codes "log-json") (rows_after (built_at run_app).rules [] words) in
    let any_host = flag_in (codes "any-host") (rows_after (built_at run_app).rules [] words) in
    (tasks.Run (record { settings = at_some_place settings.0; stay = stay.0; log = log.0; log_json = log_json.0; any_host = any_host.0 }), (refl, (settings.1, stay.1, log.1, log_json.1, any_host.1)))

dump_demands : Demanding dump_app
dump_demands words e =
    let solid : IsSolid (built_at dump_app) = record { each = refl; apart = refl; demands = refl } in
    let journal = given_in (built_at dump_app) words solid e _ (inl refl) refl in
    let count = flag_in (codes "count") (rows_after (built_at dump_app).rules [] words) in
    let json = flag_in (codes "json") (rows_after (built_at dump_app).rules [] words) in
    (tasks.Dump (record { journal = at_some_place journal.0; count = count.0; json = json.0 }), (refl, (journal.1, count.1, json.1)))

migrate_demands : Demanding migrate_app
migrate_demands words e =
    let solid : IsSolid (built_at migrate_app) = record { each = refl; apart = refl; demands = refl } in
    let old = given_in (built_at migrate_app) words solid e _ (inl refl) refl in
    let new = given_in (built_at migrate_app) words solid e _ (inr (inl refl)) refl in
    (tasks.Migrate (record { old = at_some_place old.0; new = at_some_place new.0 }), (refl, (old.1, new.1)))

status_demands : Demanding status_app
status_demands words e =
    let solid : IsSolid (built_at status_app) = record { each = refl; apart = refl; demands = refl } in
    let rows = rows_after (built_at status_app).rules [] words in
    let address = given_in (built_at status_app) words solid e _ (inl refl) refl in
    let all = flag_in (codes "all") rows in
    let links = flag_in (codes "links") rows in
    let ready = flag_in (codes "ready") rows in
    let json = flag_in (codes "json") rows in
    let timeout = text_in (codes "timeout") rows in
    let question = may_have 16 65535 (codes "question") rows (omega arith)
    (perhaps_in (built_at status_app) words solid e _ (inr (inr (inl refl)))) in (
      tasks.Status (record { address = at_some_place address.0; all = all.0; links = links.0; ready = ready.0; json = json.0; timeout = timeout.0; question = question.0 }),
      (refl, (address.1, all.1, links.1, ready.1, json.1, timeout.1, question.1)),
    )

ask_demands : Demanding ask_app
ask_demands words e =
    let solid : IsSolid (built_at ask_app) = record { each = refl; apart = refl; demands = refl } in
    let rows = rows_after (built_at ask_app).rules [] words in
    let address = given_in (built_at ask_app) words solid e _ (inl refl) refl in
    let question = has_number 16 65535 (codes "question") rows (omega arith) (given_in (built_at ask_app) words solid e _ (inr (inl refl)) refl) in
    let all = flag_in (codes "all") rows in
    let wait = flag_in (codes "wait") rows in
    let json = flag_in (codes "json") rows in
    let timeout = text_in (codes "timeout") rows in
    (tasks.Ask (record { address = at_some_place address.0; question = question.0; all = all.0; wait = wait.0; json = json.0; timeout = timeout.0 }), (refl, (address.1, question.1, all.1, wait.1, json.1, timeout.1)))

decide_demands : Demanding decide_app
decide_demands words e =
    let solid : IsSolid (built_at decide_app) = record { each = refl; apart = refl; demands = refl } in
    let rows = rows_after (built_at decide_app).rules [] words in
    let file = given_in (built_at decide_app) words solid e _ (inl refl) refl in
    let question = has_number 16 65535 (codes "question") rows (omega arith)
    (given_in (built_at decide_app) words solid e _ (inr (inl refl)) refl) in
    let bit = has_number 8 255 (codes "bit") rows (omega arith)
    (given_in (built_at decide_app) words solid e _ (inr (inr (inl refl))) refl) in
    let json = flag_in (codes "json") rows in
    let timeout = text_in (codes "timeout") rows in (
      tasks.Decide (record { file = at_some_place file.0; question = question.0; bit = bit.0; json = json.0; timeout = timeout.0 }),
      (refl, (file.1, question.1, bit.1, json.1, timeout.1)),
    )

transcript_demands : Demanding transcript_app
transcript_demands words e =
    let solid : IsSolid (built_at transcript_app) = record { each = refl; apart = refl; demands = refl } in
    let rows = rows_after (built_at transcript_app).rules [] words in
    let address = given_in (built_at transcript_app) words solid e _ (inl refl) refl in
    let question = has_number 16 65535 (codes "question") rows (omega arith)
    (given_in (built_at transcript_app) words solid e _ (inr (inl refl)) refl) in
    let all = flag_in (codes "all") rows in
    let timeout = text_in (codes "timeout") rows in (
      tasks.Transcript (record { address = at_some_place address.0; question = question.0; all = all.0; timeout = timeout.0 }),
      (refl, (address.1, question.1, all.1, timeout.1)),
    )

audit_demands : Demanding audit_app
audit_demands words e =
    let solid : IsSolid (built_at audit_app) = record { each = refl; apart = refl; demands = refl } in
    let rows = rows_after (built_at audit_app).rules [] words in
    let file = given_in (built_at audit_app) words solid e _ (inl refl) refl in
    let question = may_have 16 65535 (codes "question") rows (omega arith)
    (perhaps_in (built_at audit_app) words solid e _ (inr (inl refl))) in
    let all = flag_in (codes "all") rows in
    let n = may_have 16 65535 (codes "n") rows (omega arith)
    (perhaps_in (built_at audit_app) words solid e _ (inr (inr (inr (inl refl))))) in
    let t = may_have 16 65535 (codes "t") rows (omega arith)
    (perhaps_in (built_at audit_app) words solid e _ (inr (inr (inr (inr (inl refl)))))) in
    let questions = may_have 16 65535 (codes "questions") rows (omega arith)
    (perhaps_in (built_at audit_app) words solid e _ (inr (inr (inr (inr (inr (inl refl))))))) in
    let timeout = text_in (codes "timeout") rows in (
      tasks.Audit (record { file = at_some_place file.0; question = question.0; all = all.0; n = n.0; t = t.0; questions = questions.0; timeout = timeout.0 }),
      (refl, (file.1, question.1, all.1, n.1, t.1, questions.1, timeout.1)),
    )

propose_demands : Demanding propose_app
propose_demands words e =
    let solid : IsSolid (built_at propose_app) = record { each = refl; apart = refl; demands = refl } in
    let rows = rows_after (built_at propose_app).rules [] words in
    let address = given_in (built_at propose_app) words solid e _ (inl refl) refl in
    let question = has_number 16 65535 (codes "question") rows (omega arith) (given_in (built_at propose_app) words solid e _ (inr (inl refl)) refl) in
    let bit = has_number 8 255 (codes "bit") rows (omega arith) (given_in (built_at propose_app) words solid e _ (inr (inr (inl refl))) refl) in
    let all = flag_in (codes "all") rows in
    let timeout = text_in (codes "timeout") rows in
    (tasks.Propose (record { address = at_some_place address.0; question = question.0; bit = bit.0; all = all.0; timeout = timeout.0 }), (refl, (address.1, question.1, bit.1, all.1, timeout.1)))

gateway_demands : Demanding gateway_app
gateway_demands words e =
    let solid : IsSolid (built_at gateway_app) = record { each = refl; apart = refl; demands = refl } in
    let rows = rows_after (built_at gateway_app).rules [] words in
    let file = given_in (built_at gateway_app) words solid e _ (inl refl) refl in
    let listen = text_in (codes "listen") rows in
    let token = text_in (codes "token") rows in
    (tasks.Gateway (record { file = at_some_place file.0; listen = listen.0; token = token.0 }), (refl, (file.1, listen.1, token.1)))

epochs_demands : Demanding epochs_app
epochs_demands words e =
    let solid : IsSolid (built_at epochs_app) = record { each = refl; apart = refl; demands = refl } in
    let rows = rows_after (built_at epochs_app).rules [] words in
    let file = given_in (built_at epochs_app) words solid e _ (inl refl) refl in
    let json = flag_in (codes "json") rows in
    let timeout = text_in (codes "timeout") rows in
    (tasks.Epochs (record { file = at_some_place file.0; json = json.0; timeout = timeout.0 }), (refl, (file.1, json.1, timeout.1)))

simulate_demands : Demanding simulate_app
simulate_demands words e =
    let solid : IsSolid (built_at simulate_app) = record { each = refl; apart = refl; demands = refl } in
    let rows = rows_after (built_at simulate_app).rules [] words in
    let script = text_in (codes "script") rows in
    let trace = text_in (codes "trace") rows in
    let chart = text_in (codes "chart") rows in
    let page = text_in (codes "page") rows in
    let question = may_have 16 65535 (codes "question") rows (omega arith)
    (perhaps_in (built_at simulate_app) words solid e _ (inr (inr (inr (inr (inl refl)))))) in
    let member = may_have 8 255 (codes "member") rows (omega arith)
    (perhaps_in (built_at simulate_app) words solid e _ (inr (inr (inr (inr (inr (inl refl))))))) in
    let from = may_have 32 4294967295 (codes "from") rows (omega arith)
    (perhaps_in (built_at simulate_app) words solid e _ (inr (inr (inr (inr (inr (inr (inl refl)))))))) in
    let to = may_have 32 4294967295 (codes "to") rows (omega arith)
    (perhaps_in (built_at simulate_app) words solid e _ (inr (inr (inr (inr (inr (inr (inr (inl refl))))))))) in
    let forever = flag_in (codes "forever") rows in
    let seed = may_have 32 4294967295 (codes "seed") rows (omega arith)
    (perhaps_in (built_at simulate_app) words solid e _ (inr (inr (inr (inr (inr (inr (inr (inr (inr (inl refl))))))))))) in
    let seconds = may_have 32 4294967295 (codes "seconds") rows (omega arith)
    (perhaps_in (built_at simulate_app) words solid e _ (inr (inr (inr (inr (inr (inr (inr (inr (inr (inr (inl refl)))))))))))) in (
      tasks.Simulate (record { script = script.0; trace = trace.0; chart = chart.0; page = page.0; question = question.0; member = member.0; from = from.0; to = to.0; forever = forever.0; seed = seed.0; seconds = seconds.0 }),
      (refl, (script.1, trace.1, chart.1, page.1, question.1, member.1, from.1, to.1, forever.1, seed.1, seconds.1)),
    )

rounds_demands : Demanding rounds_app
rounds_demands words e =
    let solid : IsSolid (built_at rounds_app) = record { each = refl; apart = refl; demands = refl } in
    let rows = rows_after (built_at rounds_app).rules [] words in
    let n = has_number 16 65535 (codes "n") rows (omega arith)
    (given_in (built_at rounds_app) words solid e _ (inl refl) refl) in
    let t = has_number 16 65535 (codes "t") rows (omega arith)
    (given_in (built_at rounds_app) words solid e _ (inr (inl refl)) refl) in
    let liars = may_have 16 65535 (codes "liars") rows (omega arith)
    (perhaps_in (built_at rounds_app) words solid e _ (inr (inr (inl refl)))) in
    let order = text_in (codes "order") rows in
    let seeds = may_have 32 4294967295 (codes "seeds") rows (omega arith)
    (perhaps_in (built_at rounds_app) words solid e _ (inr (inr (inr (inr (inl refl)))))) in
    let chart = text_in (codes "chart") rows in (
      tasks.Rounds (record { n = n.0; t = t.0; liars = liars.0; order = order.0; seeds = seeds.0; chart = chart.0 }),
      (refl, (n.1, t.1, liars.1, order.1, seeds.1, chart.1)),
    )

hear_demands : Demanding hear_app
hear_demands words e =
    let solid : IsSolid (built_at hear_app) = record { each = refl; apart = refl; demands = refl } in
    let rows = rows_after (built_at hear_app).rules [] words in
    let n = has_number 16 65535 (codes "n") rows (omega arith) (given_in (built_at hear_app) words solid e _ (inl refl) refl) in
    let t = has_number 16 65535 (codes "t") rows (omega arith) (given_in (built_at hear_app) words solid e _ (inr (inl refl)) refl) in
    let questions = has_number 16 65535 (codes "questions") rows (omega arith) (given_in (built_at hear_app) words solid e _ (inr (inr (inl refl))) refl) in
    let me = has_number 8 255 (codes "me") rows (omega arith) (given_in (built_at hear_app) words solid e _ (inr (inr (inr (inl refl)))) refl) in
    (tasks.Hear (record { n = n.0; t = t.0; questions = questions.0; me = me.0 }), (refl, (n.1, t.1, questions.1, me.1)))

-- ---- the program

-- no walk that is without fault meets the command that gives help
met_well : (s : Shape) → s.disable_help_subcommand ≡ false → (name word : Text) (h : Held) → other_fault s (Some name) word h ≡ []
    → bytes_eq name (codes "help") ≡ false
met_well s shows name word h e = go (bytes_eq name (codes "help")) s.disable_help_subcommand shows e
  where
    go : (b d : Bool) → d ≡ false → cond (b && not d) (DisplayHelp ∷ InvalidSubcommand ∷ []) [] ≡ [] → b ≡ false
    go false d f e = refl
    go true true f e = cc
    go true false f e = cc

abbrev Item : Shape → Type 0
Item s = (q : Text × List Text) → answers_to q.0 (label_of s) ≡ true → bytes_eq q.0 (codes "help") ≡ false
    → level_fault s [] nothing_held q.1 false [] ≡ [] → Below s q.1

abbrev Items : List Shape → Type 0
Items [] = ⊤
Items (s ∷ rest) = Item s × Items rest

item_of : (subs : List Shape) (name : Text) (s : Shape) → Items subs → find (λ (x : Shape). answers_to name (label_of x)) subs ≡ Some s
    → Item s × (answers_to name (label_of s) ≡ true)
item_of [] name s items is = absurd (not_some s is)
item_of (x ∷ rest) name s items is = go (answers_to name (label_of x)) refl (item_of rest name s items.1) is
  where
    go : (b : Bool) → answers_to name (label_of x) ≡ b
        → (find (λ (x : Shape). answers_to name (label_of x)) rest ≡ Some s → Item s × (answers_to name (label_of s) ≡ true))
        → cond b (Some x) (find (λ (x : Shape). answers_to name (label_of x)) rest) ≡ Some s → Item s × (answers_to name (label_of s) ≡ true)
    go true e rest is =
        let same : x ≡ s = same_under x x s is in
        (subst Item same items.0, subst (λ (y : Shape). answers_to name (label_of y) ≡ true) same e)
    go false e rest is = rest is

no_help : (s : Shape) → label_of s ≡ (codes "help", []) → Item s
no_help s is q answers other e =
    let met : (bytes_eq (codes "help") q.0 || false) ≡ true = subst (λ (l : Text × List Text). answers_to q.0 l ≡ true) is answers in
    let same : codes "help" ≡ q.0 = (bytes_eq-Decides (codes "help") q.0).0 (plain (bytes_eq (codes "help") q.0) met) in
    let bad : false ≡ true = sym other ∙ (bytes_eq-Decides q.0 (codes "help")).1 (sym same) in
    absurd (true≢false (sym bad))
  where
    plain : (b : Bool) → (b || false) ≡ true → b ≡ true
    plain true f = refl
    plain false f = f

all_items : Items (built program_app).subs
all_items = ((λ q answers other e. new_cluster_demands q.1 e), ((λ q answers other e. init_demands q.1 e), ((λ q answers other e. check_demands q.1 e), ((λ q answers other e. run_demands q.1 e), ((λ q answers other e. propose_demands q.1 e), ((λ q answers other e. ask_demands q.1 e), ((λ q answers other e. decide_demands q.1 e), ((λ q answers other e. status_demands q.1 e), ((λ q answers other e. transcript_demands q.1 e), ((λ q answers other e. audit_demands q.1 e), ((λ q answers other e. gateway_demands q.1 e), ((λ q answers other e. epochs_demands q.1 e), ((λ q answers other e. dump_demands q.1 e), ((λ q answers other e. migrate_demands q.1 e), ((λ q answers other e. simulate_demands q.1 e), ((λ q answers other e. rounds_demands q.1 e), ((λ q answers other e. hear_demands q.1 e), (no_help _ refl, tt))))))))))))))))))

entered_asks : (subs : List Shape) (q : Text × List Text) (found : Option Shape) → find (λ (s : Shape). answers_to q.0 (label_of s)) subs ≡ found
    → Items subs → bytes_eq q.0 (codes "help") ≡ false
    → option_map_or (λ (s : Shape). level_fault s [] nothing_held q.1 false []) found [] ≡ []
    → is_some (option_map (λ (s : Shape). rows_at s q.1) found) ≡ true
    → (task : Task) × IsAskedFor (option_map (λ (s : Shape). rows_at s q.1) found) task
entered_asks subs q None is items other e some = absurd (true≢false (sym some))
entered_asks subs q (Some s) is items other e some =
    let item = item_of subs q.0 s items is in
    let below = item.0 q item.1 other e in
    (below.0, record { name = s.name; rows = rows_after s.rules [] q.1; is_met = refl; named = below.1 })

abbrev met_by_name : Option (Text × List Text) → Type 0
met_by_name stop = IfSome stop (λ q. bytes_eq q.0 (codes "help") ≡ false)

stopped_asks : (a : App) (stop : Option (Text × List Text)) → Items a.subs → met_by_name stop → entered_fault a stop ≡ []
    → is_some (entered a stop) ≡ true → (task : Task) × IsAskedFor (entered a stop) task
stopped_asks a None items other e some = absurd (true≢false (sym some))
stopped_asks a (Some q) items other e some =
    entered_asks a.subs q (find (λ (s : Shape). answers_to q.0 (label_of s)) a.subs) refl items other e some

-- a level that has to enter a subcommand enters one
level_enters : (a : App) (words : List Text) → a.top.disable_help_subcommand ≡ false → a.top.subcommand_required ≡ true → Items a.subs
    → built_fault a nothing_held words ≡ []
    → (task : Task) × IsAskedFor (entered a (walk a.top.rules (names_of a) nothing_held words).stopped) task
level_enters a words shows wants items e =
    let s = a.top in
    let end = walk s.rules (names_of a) nothing_held words in
    let sub = is_some (entered a end.stopped) in
    let walking = walk_fault s (names_of a) (walk_from nothing_held) words in
    let below = entered_fault a end.stopped in
    let settling = settle_fault s.rules s.args_override_self end.held in
    let filling = defaults_fault (settled s.rules end.held).rows s.rules in
    let checking = check_fault s (finished s.rules end.held) sub in
    let after_walk = right_of walking (or_else below (or_else settling (or_else filling checking))) e in
    let after_below = right_of below (or_else settling (or_else filling checking)) after_walk in
    let after_settle = right_of settling (or_else filling checking) after_below in
    let good = walk_ok s (λ _. ⊤) (λ name. bytes_eq name (codes "help") ≡ false) (λ x values rows has f p. tt) (met_well s shows) (names_of a) words (walk_from nothing_held)
    (left_of walking (or_else below (or_else settling (or_else filling checking))) e) (tt, tt) in
    let wanted = second_none _ (not sub && s.subcommand_required) _ (right_of filling checking after_settle) in
    stopped_asks a end.stopped items (stop_is end.stopped good.1) (left_of below (or_else settling (or_else filling checking)) after_walk) (entered_one sub s.subcommand_required wants wanted)
  where
    entered_one : (sub wants : Bool) → wants ≡ true → (not sub && wants) ≡ false → sub ≡ true
    entered_one true wants w e = refl
    entered_one false true w e = cc
    entered_one false false w e = cc

    stop_is : (stop : Option (Text × List Text))
        → StopOk a.top (λ _. ⊤) (λ name. bytes_eq name (codes "help") ≡ false) (λ x values rows has f p. tt) (met_well a.top shows) stop → met_by_name stop
    stop_is None ok = tt
    stop_is (Some q) ok = ok

-- words without a fault ask for a task
pub faultless_asks : (words : List Text) → AreFaultless words → (task : Task) × AskFor words task
faultless_asks words e = level_enters (built program_app) (argument_words program_app words) refl refl all_items e
