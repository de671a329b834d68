use Rattle.std.proofs.Common.{◌≡◌, rules, Result, Err, [], ◌∷◌, refl, option_map, string_bytes}
use Rattle.toml.specs.View.{table_view}
use Rattle.settings.specs.Words.{Entries, SettingsFault, Cluster, N, T, Questions, Me, Journal, Peers, Desk, Seed, Listen, DeskSocket, Epochs, HasPath, HasAddresses, MayHavePath, keys}
use Rattle.settings.proofs.First.{first_of, first_or_memory}
use Rattle.settings.proofs.entries.Entries.read.Goals as goal

pub returns-in_err-number-clause-fault : goal.returns-in_err-number-clause-fault
returns-in_err-number-clause-fault c =
    let ends : ◌≡◌ {A = Result Entries SettingsFault} c.from_residual.result (Err c.in_err-number.field-0.0) = search (rules, c.from_residual.ensures) in
    let lack = c.in_err-number.ensures.fault in
    first_of keys (table_view c.args.table.now) [] Cluster (N ∷ T ∷ Questions ∷ Me ∷ Journal ∷ Peers ∷ Desk ∷ Seed ∷ Listen ∷ DeskSocket ∷ Epochs ∷ [])
    c.in_err-number.field-0.0 c.from_residual.result ends refl
    tt
    (lack.0, (λ h. lack.1 h.0 h.1))

pub returns-in_err-small-clause-fault : goal.returns-in_err-small-clause-fault
returns-in_err-small-clause-fault c =
    let ends : ◌≡◌ {A = Result Entries SettingsFault} c.from_residual-in_err-small.result (Err c.in_err-small.field-0.0) = search (rules, c.from_residual-in_err-small.ensures) in
    let lack = c.in_err-small.ensures.fault in
    first_of keys (table_view c.args.table.now) (Cluster ∷ []) N (T ∷ Questions ∷ Me ∷ Journal ∷ Peers ∷ Desk ∷ Seed ∷ Listen ∷ DeskSocket ∷ Epochs ∷ [])
    c.in_err-small.field-0.0 c.from_residual-in_err-small.result ends refl
    ((c.in_ok-number.field-0, c.in_ok-number.ensures.ok), tt)
    (lack.0, (λ h. lack.1 h.0 h.1))

pub returns-in_err-small-2-clause-fault : goal.returns-in_err-small-2-clause-fault
returns-in_err-small-2-clause-fault c =
    let ends : ◌≡◌ {A = Result Entries SettingsFault} c.from_residual-in_err-small-2.result (Err c.in_err-small-2.field-0.0) = search (rules, c.from_residual-in_err-small-2.ensures) in
    let lack = c.in_err-small-2.ensures.fault in
    first_of keys (table_view c.args.table.now) (Cluster ∷ N ∷ []) T (Questions ∷ Me ∷ Journal ∷ Peers ∷ Desk ∷ Seed ∷ Listen ∷ DeskSocket ∷ Epochs ∷ [])
    c.in_err-small-2.field-0.0 c.from_residual-in_err-small-2.result ends refl
    ((c.in_ok-number.field-0, c.in_ok-number.ensures.ok), ((c.in_ok-small.field-0, c.in_ok-small.ensures.ok), tt))
    (lack.0, (λ h. lack.1 h.0 h.1))

pub returns-in_err-small-3-clause-fault : goal.returns-in_err-small-3-clause-fault
returns-in_err-small-3-clause-fault c =
    let ends : ◌≡◌ {A = Result Entries SettingsFault} c.from_residual-in_err-small-3.result (Err c.in_err-small-3.field-0.0) = search (rules, c.from_residual-in_err-small-3.ensures) in
    let lack = c.in_err-small-3.ensures.fault in
    first_of keys (table_view c.args.table.now) (Cluster ∷ N ∷ T ∷ []) Questions (Me ∷ Journal ∷ Peers ∷ Desk ∷ Seed ∷ Listen ∷ DeskSocket ∷ Epochs ∷ [])
    c.in_err-small-3.field-0.0 c.from_residual-in_err-small-3.result ends refl
    ((c.in_ok-number.field-0, c.in_ok-number.ensures.ok), ((c.in_ok-small.field-0, c.in_ok-small.ensures.ok), ((c.in_ok-small-2.field-0, c.in_ok-small-2.ensures.ok), tt)))
    (lack.0, (λ h. lack.1 h.0 h.1))

pub returns-in_err-number-2-clause-fault : goal.returns-in_err-number-2-clause-fault
returns-in_err-number-2-clause-fault c =
    let ends : ◌≡◌ {A = Result Entries SettingsFault} c.from_residual-in_err-number-2.result (Err c.in_err-number-2.field-0.0) = search (rules, c.from_residual-in_err-number-2.ensures) in
    let lack = c.in_err-number-2.ensures.fault in
    first_of keys (table_view c.args.table.now) (Cluster ∷ N ∷ T ∷ Questions ∷ []) Me (Journal ∷ Peers ∷ Desk ∷ Seed ∷ Listen ∷ DeskSocket ∷ Epochs ∷ [])
    c.in_err-number-2.field-0.0 c.from_residual-in_err-number-2.result ends refl
    ((c.in_ok-number.field-0, c.in_ok-number.ensures.ok), ((c.in_ok-small.field-0, c.in_ok-small.ensures.ok), ((c.in_ok-small-2.field-0, c.in_ok-small-2.ensures.ok), ((c.in_ok-small-3.field-0, c.in_ok-small-3.ensures.ok), tt))))
    (lack.0, (λ h. lack.1 h.0 h.1))

pub returns-in_err-path-clause-fault : goal.returns-in_err-path-clause-fault
returns-in_err-path-clause-fault c =
    let ends : ◌≡◌ {A = Result Entries SettingsFault} c.from_residual-in_err-path.result (Err c.in_err-path.field-0.0) = search (rules, c.from_residual-in_err-path.ensures) in
    first_or_memory keys (table_view c.args.table.now) (Cluster ∷ N ∷ T ∷ Questions ∷ Me ∷ []) Journal (Peers ∷ Desk ∷ Seed ∷ Listen ∷ DeskSocket ∷ Epochs ∷ [])
    c.in_err-path.field-0.0 c.from_residual-in_err-path.result ends refl
    ((c.in_ok-number.field-0, c.in_ok-number.ensures.ok), ((c.in_ok-small.field-0, c.in_ok-small.ensures.ok), ((c.in_ok-small-2.field-0, c.in_ok-small-2.ensures.ok), ((c.in_ok-small-3.field-0, c.in_ok-small-3.ensures.ok), ((c.in_ok-number-2.field-0, c.in_ok-number-2.ensures.ok), tt)))))
    (HasPath (table_view c.args.table.now) Journal) (λ h. h) c.in_err-path.ensures.fault

pub returns-in_err-addresses-clause-fault : goal.returns-in_err-addresses-clause-fault
returns-in_err-addresses-clause-fault c =
    let ends : ◌≡◌ {A = Result Entries SettingsFault} c.from_residual-in_err-addresses.result (Err c.in_err-addresses.field-0.0) = search (rules, c.from_residual-in_err-addresses.ensures) in
    first_or_memory keys (table_view c.args.table.now) (Cluster ∷ N ∷ T ∷ Questions ∷ Me ∷ Journal ∷ []) Peers (Desk ∷ Seed ∷ Listen ∷ DeskSocket ∷ Epochs ∷ [])
    c.in_err-addresses.field-0.0 c.from_residual-in_err-addresses.result ends refl
    ((c.in_ok-number.field-0, c.in_ok-number.ensures.ok), ((c.in_ok-small.field-0, c.in_ok-small.ensures.ok), ((c.in_ok-small-2.field-0, c.in_ok-small-2.ensures.ok), ((c.in_ok-small-3.field-0, c.in_ok-small-3.ensures.ok), ((c.in_ok-number-2.field-0, c.in_ok-number-2.ensures.ok), ((string_bytes c.in_ok-path.field-0, c.in_ok-path.ensures.ok), tt))))))
    (HasAddresses (table_view c.args.table.now) Peers) (λ h. h) c.in_err-addresses.ensures.fault

pub returns-in_err-address-clause-fault : goal.returns-in_err-address-clause-fault
returns-in_err-address-clause-fault c =
    let ends : ◌≡◌ {A = Result Entries SettingsFault} c.from_residual-in_err-address.result (Err c.in_err-address.field-0.0) = search (rules, c.from_residual-in_err-address.ensures) in
    let lack = c.in_err-address.ensures.fault in
    first_of keys (table_view c.args.table.now) (Cluster ∷ N ∷ T ∷ Questions ∷ Me ∷ Journal ∷ Peers ∷ []) Desk (Seed ∷ Listen ∷ DeskSocket ∷ Epochs ∷ [])
    c.in_err-address.field-0.0 c.from_residual-in_err-address.result ends refl
    ((c.in_ok-number.field-0, c.in_ok-number.ensures.ok), ((c.in_ok-small.field-0, c.in_ok-small.ensures.ok), ((c.in_ok-small-2.field-0, c.in_ok-small-2.ensures.ok), ((c.in_ok-small-3.field-0, c.in_ok-small-3.ensures.ok), ((c.in_ok-number-2.field-0, c.in_ok-number-2.ensures.ok), ((string_bytes c.in_ok-path.field-0, c.in_ok-path.ensures.ok), ((c.in_ok-addresses.field-0.items, c.in_ok-addresses.ensures.ok), tt)))))))
    (lack.0, (λ h. lack.1 h.0 h.1))

pub returns-in_err-seed-clause-fault : goal.returns-in_err-seed-clause-fault
returns-in_err-seed-clause-fault c =
    let ends : ◌≡◌ {A = Result Entries SettingsFault} c.from_residual-in_err-seed.result (Err c.in_err-seed.field-0.0) = search (rules, c.from_residual-in_err-seed.ensures) in
    let lack = c.in_err-seed.ensures.fault in
    first_of keys (table_view c.args.table.now) (Cluster ∷ N ∷ T ∷ Questions ∷ Me ∷ Journal ∷ Peers ∷ Desk ∷ []) Seed (Listen ∷ DeskSocket ∷ Epochs ∷ [])
    c.in_err-seed.field-0.0 c.from_residual-in_err-seed.result ends refl
    ((c.in_ok-number.field-0, c.in_ok-number.ensures.ok), ((c.in_ok-small.field-0, c.in_ok-small.ensures.ok), ((c.in_ok-small-2.field-0, c.in_ok-small-2.ensures.ok), ((c.in_ok-small-3.field-0, c.in_ok-small-3.ensures.ok), ((c.in_ok-number-2.field-0, c.in_ok-number-2.ensures.ok), ((string_bytes c.in_ok-path.field-0, c.in_ok-path.ensures.ok), ((c.in_ok-addresses.field-0.items, c.in_ok-addresses.ensures.ok), ((c.in_ok-address.field-0, c.in_ok-address.ensures.ok), tt))))))))
    (lack.0, (λ h. lack.1 h.0 h.1))

pub returns-in_err-optional_address-clause-fault : goal.returns-in_err-optional_address-clause-fault
returns-in_err-optional_address-clause-fault c =
    let ends : ◌≡◌ {A = Result Entries SettingsFault} c.from_residual-in_err-optional_address.result (Err c.in_err-optional_address.field-0.0) = search (rules, c.from_residual-in_err-optional_address.ensures) in
    let lack = c.in_err-optional_address.ensures.fault in
    first_of keys (table_view c.args.table.now) (Cluster ∷ N ∷ T ∷ Questions ∷ Me ∷ Journal ∷ Peers ∷ Desk ∷ Seed ∷ []) Listen (DeskSocket ∷ Epochs ∷ [])
    c.in_err-optional_address.field-0.0 c.from_residual-in_err-optional_address.result ends refl
    ((c.in_ok-number.field-0, c.in_ok-number.ensures.ok), ((c.in_ok-small.field-0, c.in_ok-small.ensures.ok), ((c.in_ok-small-2.field-0, c.in_ok-small-2.ensures.ok), ((c.in_ok-small-3.field-0, c.in_ok-small-3.ensures.ok), ((c.in_ok-number-2.field-0, c.in_ok-number-2.ensures.ok), ((string_bytes c.in_ok-path.field-0, c.in_ok-path.ensures.ok), ((c.in_ok-addresses.field-0.items, c.in_ok-addresses.ensures.ok), ((c.in_ok-address.field-0, c.in_ok-address.ensures.ok), ((c.in_ok-seed.field-0, c.in_ok-seed.ensures.ok), tt)))))))))
    (lack.0, (λ h. lack.1 h.0 h.1))

pub returns-in_err-optional_path-clause-fault : goal.returns-in_err-optional_path-clause-fault
returns-in_err-optional_path-clause-fault c =
    let ends : ◌≡◌ {A = Result Entries SettingsFault} c.from_residual-in_err-optional_path.result (Err c.in_err-optional_path.field-0.0) = search (rules, c.from_residual-in_err-optional_path.ensures) in
    let lack = c.in_err-optional_path.ensures.fault in
    first_or_memory keys (table_view c.args.table.now) (Cluster ∷ N ∷ T ∷ Questions ∷ Me ∷ Journal ∷ Peers ∷ Desk ∷ Seed ∷ Listen ∷ []) DeskSocket (Epochs ∷ [])
    c.in_err-optional_path.field-0.0 c.from_residual-in_err-optional_path.result ends refl
    ((c.in_ok-number.field-0, c.in_ok-number.ensures.ok), ((c.in_ok-small.field-0, c.in_ok-small.ensures.ok), ((c.in_ok-small-2.field-0, c.in_ok-small-2.ensures.ok), ((c.in_ok-small-3.field-0, c.in_ok-small-3.ensures.ok), ((c.in_ok-number-2.field-0, c.in_ok-number-2.ensures.ok), ((string_bytes c.in_ok-path.field-0, c.in_ok-path.ensures.ok), ((c.in_ok-addresses.field-0.items, c.in_ok-addresses.ensures.ok), ((c.in_ok-address.field-0, c.in_ok-address.ensures.ok), ((c.in_ok-seed.field-0, c.in_ok-seed.ensures.ok), ((c.in_ok-optional_address.field-0, c.in_ok-optional_address.ensures.ok), tt))))))))))
    (MayHavePath (table_view c.args.table.now) DeskSocket) (λ h. h) lack

pub returns-in_err-optional_path-2-clause-fault : goal.returns-in_err-optional_path-2-clause-fault
returns-in_err-optional_path-2-clause-fault c =
    let ends : ◌≡◌ {A = Result Entries SettingsFault} c.from_residual-in_err-optional_path-2.result (Err c.in_err-optional_path-2.field-0.0) = search (rules, c.from_residual-in_err-optional_path-2.ensures) in
    let lack = c.in_err-optional_path-2.ensures.fault in
    first_or_memory keys (table_view c.args.table.now) (Cluster ∷ N ∷ T ∷ Questions ∷ Me ∷ Journal ∷ Peers ∷ Desk ∷ Seed ∷ Listen ∷ DeskSocket ∷ []) Epochs []
    c.in_err-optional_path-2.field-0.0 c.from_residual-in_err-optional_path-2.result ends refl
    ((c.in_ok-number.field-0, c.in_ok-number.ensures.ok), ((c.in_ok-small.field-0, c.in_ok-small.ensures.ok), ((c.in_ok-small-2.field-0, c.in_ok-small-2.ensures.ok), ((c.in_ok-small-3.field-0, c.in_ok-small-3.ensures.ok), ((c.in_ok-number-2.field-0, c.in_ok-number-2.ensures.ok), ((string_bytes c.in_ok-path.field-0, c.in_ok-path.ensures.ok), ((c.in_ok-addresses.field-0.items, c.in_ok-addresses.ensures.ok), ((c.in_ok-address.field-0, c.in_ok-address.ensures.ok), ((c.in_ok-seed.field-0, c.in_ok-seed.ensures.ok), ((c.in_ok-optional_address.field-0, c.in_ok-optional_address.ensures.ok), ((option_map string_bytes c.in_ok-optional_path.field-0, c.in_ok-optional_path.ensures.ok), tt)))))))))))
    (MayHavePath (table_view c.args.table.now) Epochs) (λ h. h) lack
