use Rattle.std.proofs.Common.{◌≡◌, ◌∙◌, sym, Option, Some, None}
use Rattle.toml.specs.Data.{Data}
use Rattle.toml.specs.View.{view, table_view}
use Rattle.settings.specs.Words.{Address, MayHaveAddress}
use Rattle.settings.proofs.entries.optional_address.Goals as goal

pub returns-in-Err-clause-fault : goal.returns-in-Err-clause-fault
returns-in-Err-clause-fault c = (c.in-Err.ensures.fault.0, none)
  where
    none : (value : Option Address) → MayHaveAddress (table_view c.args.table.now) c.args.key value → ⊥
    none None lacks =
        let bad : ◌≡◌ {A = Option Data} (Some (view c.in-Some._value.now)) None = sym c.in-Some.ensures ∙ lacks in
        cc
    none (Some address) has = c.in-Err.ensures.fault.1 address has
