use Rattle.std.proofs.Common.{rules, ◌∙◌, map, refl, subst, sym}
use Rattle.std.proofs.lemmas.Result.{err_from_is_err_and}
use Rattle.clap.specs.Kinds.{HasKind, Kinds}
use Rattle.command_line.proofs.Parsing.{asked_by_words, asks_for_one, fault_of_words, is_free, quiet_by_words}
use Rattle.command_line.proofs.tasks.command.Goals as goal

pub unreachable-requires : goal.unreachable-requires
unreachable-requires g c =
    asks_for_one _ (map g.S.AsStr.text c.args.words.now) c.in_ok-matches.matches c.in_ok-program.ensures c.in_ok-matches.ensures.matches
    (c.in_ok-matches.ensures.kinds (is_free _ c.in_ok-program.ensures)) (c.in-None.ensures.none refl)

pub returns-clause-asks : goal.returns-clause-asks
returns-clause-asks g c =
    search (rules, asked_by_words _ (map g.S.AsStr.text c.args.words.now) c.in_ok-matches.matches c.in_ok-program.ensures c.in_ok-matches.ensures.matches c.in-Some.task c.in-Some.ensures.some)

pub returns-clause-quiet : goal.returns-clause-quiet
returns-clause-quiet g c =
    search (rules, quiet_by_words _ (map g.S.AsStr.text c.args.words.now) c.in_ok-matches.matches c.is_quiet-quiet.result c.in_ok-program.ensures c.in_ok-matches.ensures.matches c.is_quiet-quiet.ensures)

pub returns-clause-faults : goal.returns-clause-faults
returns-clause-faults g c =
    sym (fault_of_words _ (map g.S.AsStr.text c.args.words.now) c.in_ok-program.ensures) ∙ c.in_ok-matches.ensures.kinds (is_free _ c.in_ok-program.ensures)

pub returns-in_err-matches-clause-faults : goal.returns-in_err-matches-clause-faults
returns-in_err-matches-clause-faults g c =
    let fault = subst (λ (kinds : Kinds). HasKind kinds c.in_err-matches.field-0.0) (fault_of_words _ (map g.S.AsStr.text c.args.words.now) c.in_ok-program.ensures) (c.in_err-matches.ensures.kinds (is_free _ c.in_ok-program.ensures)) in
    let p = err_from_is_err_and c.from_residual-in_err-matches.result c.from_residual-in_err-matches.ensures.1 in
    rw (p.1, p.2) fault
