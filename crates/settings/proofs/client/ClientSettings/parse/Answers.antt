use Rattle.std.proofs.Common.{rules, ◌≡◌, Result, Err}
use Rattle.toml.specs.Parse.{parse_document}
use Rattle.toml.specs.View.{table_view}
use Rattle.settings.specs.Words.{IsClientMisfit, ClientSettings, SettingsFault, client_keys}
use Rattle.settings.proofs.Clients.{client_exactly, at_client_fault, of_client_entries, unfit_client_answer}
use Rattle.settings.proofs.Single.{of_text, of_key}
use Rattle.settings.proofs.client.ClientSettings.parse.Goals as goal

pub returns-in_err-table-clause-exact : goal.returns-in_err-table-clause-exact
returns-in_err-table-clause-exact c =
    let ends : ◌≡◌ {A = Result ClientSettings SettingsFault} c.from_residual.result (Err c.in_err-table.field-0.0) = search (rules, c.from_residual.ensures) in
    at_client_fault (parse_document c.args.text.now) c.from_residual.result c.in_err-table.field-0.0 ends
    (of_text client_keys IsClientMisfit (parse_document c.args.text.now) c.in_err-table.field-0.0 c.in_err-table.ensures.fault)

pub returns-in_err-read-clause-exact : goal.returns-in_err-read-clause-exact
returns-in_err-read-clause-exact c =
    let ends : ◌≡◌ {A = Result ClientSettings SettingsFault} c.from_residual-in_err-read.result (Err c.in_err-read.field-0.0) = search (rules, c.from_residual-in_err-read.ensures) in
    at_client_fault (parse_document c.args.text.now) c.from_residual-in_err-read.result c.in_err-read.field-0.0 ends
    (of_key client_keys IsClientMisfit (parse_document c.args.text.now) (table_view c.in_ok-table.table) c.in_err-read.field-0.0 c.in_ok-table.ensures.ok c.in_err-read.ensures.fault)

pub returns-clause-fault : goal.returns-clause-fault
returns-clause-fault c =
    unfit_client_answer (table_view c.in_ok-table.table) (parse_document c.args.text.now) c.in_ok-read.field-0 c.fit.result
    c.in_ok-table.ensures.ok c.in_ok-read.ensures.ok c.fit.ensures.fault

pub returns-clause-exact : goal.returns-clause-exact
returns-clause-exact c =
    client_exactly (parse_document c.args.text.now) c.fit.result
    (of_client_entries (parse_document c.args.text.now) (table_view c.in_ok-table.table) c.in_ok-read.field-0 c.fit.result
    c.in_ok-table.ensures.ok c.in_ok-read.ensures.ok c.fit.ensures.ok)
    (unfit_client_answer (table_view c.in_ok-table.table) (parse_document c.args.text.now) c.in_ok-read.field-0 c.fit.result
    c.in_ok-table.ensures.ok c.in_ok-read.ensures.ok c.fit.ensures.fault)
