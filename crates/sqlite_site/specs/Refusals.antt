-- Which refusals are faults of a store, and what they count.
use Rattle.std.specs.Prelude.{ℕ, Result, Ok, Err}
use Rattle.cell_world.specs.Counts.{one_more}
use Rattle.cell_world.specs.declared.outside.WorldError.{WorldError}
use Rattle.cell_world.specs.declared.outside.WorldError.TheVariants as world
use Rattle.record_form.specs.declared.faults.CellFault.{CellFault}
use Rattle.record_form.specs.declared.faults.CellFault.TheVariants as fault
use Rattle.sqlite.specs.declared.error.Error.{Error}
use Rattle.sqlite.specs.declared.error.Error.TheVariants.{SqliteFailure}
use Rattle.sqlite.specs.declared.error.ErrorCode.{ErrorCode}
use Rattle.sqlite.specs.declared.error.ErrorCode.TheVariants.{OutOfMemory}
use Rattle.sqlite_site.specs.declared.refused.Refused.{Refused}
use Rattle.sqlite_site.specs.declared.refused.Refused.TheVariants as refused

abbrev pub code_refusal : ErrorCode → Refused
code_refusal OutOfMemory = refused.Memory
code_refusal other = refused.Store

-- want of memory is `sqlite`'s code for it; all else is a fault of the store
abbrev pub refusal_of : Error → Refused
refusal_of (SqliteFailure code) = code_refusal code
refusal_of other = refused.Store

-- bytes that are no cell are a fault of the store
abbrev pub fault_of : CellFault → Refused
fault_of (fault.Place n) = refused.Store
fault_of fault.Memory = refused.Memory

-- what a world answers
abbrev pub answer_of : {T : Type 0} → Result T Refused → Result T WorldError
answer_of (Ok x) = Ok x
answer_of (Err refused.Store) = Err world.Failed
answer_of (Err refused.Memory) = Err world.Memory

-- the count of faults after it
abbrev pub count_after : {T : Type 0} → Result T Refused → ℕ → ℕ
count_after (Ok x) n = n
count_after (Err refused.Store) n = one_more n
count_after (Err refused.Memory) n = n

-- the same, by what the world answered
abbrev pub counts_after : {T : Type 0} → Result T WorldError → ℕ → ℕ
counts_after (Ok x) n = n
counts_after (Err world.Failed) n = one_more n
counts_after (Err world.Memory) n = n
