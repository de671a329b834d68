use Rattle.std.proofs.Common.{◌≡◌, rules, Result, Err, [], ◌∷◌, refl}
use Rattle.toml.specs.View.{table_view}
use Rattle.settings.specs.Words.{ClientEntries, SettingsFault, Cluster, N, T, Questions, Desks, Chain, HasAddresses, client_keys}
use Rattle.settings.proofs.First.{first_of, first_or_memory}
use Rattle.settings.proofs.client_entries.ClientEntries.read.Goals as goal

pub returns-in_err-number-clause-fault : goal.returns-in_err-number-clause-fault
returns-in_err-number-clause-fault c =
    let ends : ◌≡◌ {A = Result ClientEntries SettingsFault} c.from_residual.result (Err c.in_err-number.field-0.0) = search (rules, c.from_residual.ensures) in
    let lack = c.in_err-number.ensures.fault in
    first_of client_keys (table_view c.args.table.now) [] Cluster (N ∷ T ∷ Questions ∷ Desks ∷ Chain ∷ [])
    c.in_err-number.field-0.0 c.from_residual.result ends refl
    tt
    (lack.0, (λ h. lack.1 h.0 h.1))

pub returns-in_err-small-clause-fault : goal.returns-in_err-small-clause-fault
returns-in_err-small-clause-fault c =
    let ends : ◌≡◌ {A = Result ClientEntries SettingsFault} c.from_residual-in_err-small.result (Err c.in_err-small.field-0.0) = search (rules, c.from_residual-in_err-small.ensures) in
    let lack = c.in_err-small.ensures.fault in
    first_of client_keys (table_view c.args.table.now) (Cluster ∷ []) N (T ∷ Questions ∷ Desks ∷ Chain ∷ [])
    c.in_err-small.field-0.0 c.from_residual-in_err-small.result ends refl
    ((c.in_ok-number.field-0, c.in_ok-number.ensures.ok), tt)
    (lack.0, (λ h. lack.1 h.0 h.1))

pub returns-in_err-small-2-clause-fault : goal.returns-in_err-small-2-clause-fault
returns-in_err-small-2-clause-fault c =
    let ends : ◌≡◌ {A = Result ClientEntries SettingsFault} c.from_residual-in_err-small-2.result (Err c.in_err-small-2.field-0.0) = search (rules, c.from_residual-in_err-small-2.ensures) in
    let lack = c.in_err-small-2.ensures.fault in
    first_of client_keys (table_view c.args.table.now) (Cluster ∷ N ∷ []) T (Questions ∷ Desks ∷ Chain ∷ [])
    c.in_err-small-2.field-0.0 c.from_residual-in_err-small-2.result ends refl
    ((c.in_ok-number.field-0, c.in_ok-number.ensures.ok), ((c.in_ok-small.field-0, c.in_ok-small.ensures.ok), tt))
    (lack.0, (λ h. lack.1 h.0 h.1))

pub returns-in_err-small-3-clause-fault : goal.returns-in_err-small-3-clause-fault
returns-in_err-small-3-clause-fault c =
    let ends : ◌≡◌ {A = Result ClientEntries SettingsFault} c.from_residual-in_err-small-3.result (Err c.in_err-small-3.field-0.0) = search (rules, c.from_residual-in_err-small-3.ensures) in
    let lack = c.in_err-small-3.ensures.fault in
    first_of client_keys (table_view c.args.table.now) (Cluster ∷ N ∷ T ∷ []) Questions (Desks ∷ Chain ∷ [])
    c.in_err-small-3.field-0.0 c.from_residual-in_err-small-3.result ends refl
    ((c.in_ok-number.field-0, c.in_ok-number.ensures.ok), ((c.in_ok-small.field-0, c.in_ok-small.ensures.ok), ((c.in_ok-small-2.field-0, c.in_ok-small-2.ensures.ok), tt)))
    (lack.0, (λ h. lack.1 h.0 h.1))

pub returns-in_err-addresses-clause-fault : goal.returns-in_err-addresses-clause-fault
returns-in_err-addresses-clause-fault c =
    let ends : ◌≡◌ {A = Result ClientEntries SettingsFault} c.from_residual-in_err-addresses.result (Err c.in_err-addresses.field-0.0) = search (rules, c.from_residual-in_err-addresses.ensures) in
    first_or_memory client_keys (table_view c.args.table.now) (Cluster ∷ N ∷ T ∷ Questions ∷ []) Desks (Chain ∷ [])
    c.in_err-addresses.field-0.0 c.from_residual-in_err-addresses.result ends refl
    ((c.in_ok-number.field-0, c.in_ok-number.ensures.ok), ((c.in_ok-small.field-0, c.in_ok-small.ensures.ok), ((c.in_ok-small-2.field-0, c.in_ok-small-2.ensures.ok), ((c.in_ok-small-3.field-0, c.in_ok-small-3.ensures.ok), tt))))
    (HasAddresses (table_view c.args.table.now) Desks) (λ h. h) c.in_err-addresses.ensures.fault

pub returns-in_err-flag-clause-fault : goal.returns-in_err-flag-clause-fault
returns-in_err-flag-clause-fault c =
    let ends : ◌≡◌ {A = Result ClientEntries SettingsFault} c.from_residual-in_err-flag.result (Err c.in_err-flag.field-0.0) = search (rules, c.from_residual-in_err-flag.ensures) in
    let lack = c.in_err-flag.ensures.fault in
    first_of client_keys (table_view c.args.table.now) (Cluster ∷ N ∷ T ∷ Questions ∷ Desks ∷ []) Chain []
    c.in_err-flag.field-0.0 c.from_residual-in_err-flag.result ends refl
    ((c.in_ok-number.field-0, c.in_ok-number.ensures.ok), ((c.in_ok-small.field-0, c.in_ok-small.ensures.ok), ((c.in_ok-small-2.field-0, c.in_ok-small-2.ensures.ok), ((c.in_ok-small-3.field-0, c.in_ok-small-3.ensures.ok), ((c.in_ok-addresses.field-0.items, c.in_ok-addresses.ensures.ok), tt)))))
    (lack.0, (λ h. lack.1 h.0 h.1))
