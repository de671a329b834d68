use Rattle.std.proofs.Common.{rules, ◌≡◌, Result, Err}
use Rattle.toml.specs.Parse.{parse_document}
use Rattle.toml.specs.View.{table_view}
use Rattle.settings.specs.Words.{IsMisfit, Settings, SettingsFault, keys}
use Rattle.settings.proofs.Fitting.{unfit_answer}
use Rattle.settings.proofs.Single.{exactly, at_settings_fault, of_text, of_key, of_entries}
use Rattle.settings.proofs.document.Settings.parse.Goals as goal

pub returns-in_err-table-clause-exact : goal.returns-in_err-table-clause-exact
returns-in_err-table-clause-exact c =
    let ends : ◌≡◌ {A = Result Settings SettingsFault} c.from_residual.result (Err c.in_err-table.field-0.0) = search (rules, c.from_residual.ensures) in
    at_settings_fault (parse_document c.args.text.now) c.from_residual.result c.in_err-table.field-0.0 ends
    (of_text keys IsMisfit (parse_document c.args.text.now) c.in_err-table.field-0.0 c.in_err-table.ensures.fault)

pub returns-in_err-read-clause-exact : goal.returns-in_err-read-clause-exact
returns-in_err-read-clause-exact c =
    let ends : ◌≡◌ {A = Result Settings SettingsFault} c.from_residual-in_err-read.result (Err c.in_err-read.field-0.0) = search (rules, c.from_residual-in_err-read.ensures) in
    at_settings_fault (parse_document c.args.text.now) c.from_residual-in_err-read.result c.in_err-read.field-0.0 ends
    (of_key keys IsMisfit (parse_document c.args.text.now) (table_view c.in_ok-table.table) c.in_err-read.field-0.0 c.in_ok-table.ensures.ok c.in_err-read.ensures.fault)

pub returns-clause-fault : goal.returns-clause-fault
returns-clause-fault c =
    unfit_answer (table_view c.in_ok-table.table) (parse_document c.args.text.now) c.in_ok-read.field-0 c.fit.result
    c.in_ok-table.ensures.ok c.in_ok-read.ensures.ok c.fit.ensures.fault

pub returns-clause-exact : goal.returns-clause-exact
returns-clause-exact c =
    exactly (parse_document c.args.text.now) c.fit.result
    (of_entries (parse_document c.args.text.now) (table_view c.in_ok-table.table) c.in_ok-read.field-0 c.fit.result
    c.in_ok-table.ensures.ok c.in_ok-read.ensures.ok c.fit.ensures.ok)
    (unfit_answer (table_view c.in_ok-table.table) (parse_document c.args.text.now) c.in_ok-read.field-0 c.fit.result
    c.in_ok-table.ensures.ok c.in_ok-read.ensures.ok c.fit.ensures.fault)
