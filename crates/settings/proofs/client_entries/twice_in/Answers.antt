use Rattle.std.proofs.Common.{rules, ◌≡◌, ◌∙◌, ap, false, true, inl, inr, Result, Ok, Err, IfOk, IsErr, List, Option}
use Rattle.toml.specs.View.{table_view}
use Rattle.settings.specs.Words.{Address, Desks, HasAddresses, IsLackOrMemory, SettingsFault}
use Rattle.settings.specs.Clients.{first_twice}
use Rattle.settings.specs.declared.fault.SettingsFault.TheVariants as fault
use Rattle.settings.proofs.Addressing.{list_same}
use Rattle.settings.proofs.client_entries.twice_in.Goals as goal

-- an error is nothing else
no_other : {X E : Type 0} (r : Result X E) (P : X → Type 0) → IsErr r → IfOk r P
no_other (Ok x) P is = let no : false ≡ true = is in cc
no_other (Err e) P is = tt

-- what has a list lacks memory alone
of_memory : {X E : Type 0} (r : Result X E) (P : X → Type 0) (Has : List Address → Type 0) (ends : SettingsFault) (desks : List Address)
    → IsLackOrMemory Desks Has ends → Has desks → (ends ≡ fault.Memory → IsErr r) → IfOk r P
of_memory r P Has ends desks (inl lack) has refused = absurd (lack.1 desks has)
of_memory r P Has ends desks (inr memory) has refused = no_other r P (refused memory)

pub returns-in-Ok-clause-first : goal.returns-in-Ok-clause-first
returns-in-Ok-clause-first c = λ desks has.
    let value : c.deref.result.now ≡ c.in-Ok.desks.items = search rules in
    let same : c.in-Ok.desks.items ≡ desks = list_same (table_view c.args.table.now) Desks c.in-Ok.desks.items desks c.in-Ok.ensures.ok has in
    c.first_twice.ensures ∙ ap first_twice (value ∙ same)

pub returns-in-Ok-clause-unlisted : goal.returns-in-Ok-clause-unlisted
returns-in-Ok-clause-unlisted c = λ none. absurd (none c.in-Ok.desks.items c.in-Ok.ensures.ok)

pub returns-in-Err-clause-first : goal.returns-in-Err-clause-first
returns-in-Err-clause-first c = λ desks has.
    of_memory c.none_twice.result (λ (found : Option Address). found ≡ first_twice desks) (HasAddresses (table_view c.args.table.now) Desks)
    c.in-Err.fault desks c.in-Err.ensures.fault has c.none_twice.ensures.memory
