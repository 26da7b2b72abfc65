-- The faults of writes in the model's terms.
use Rattle.std.specs.Prelude.{ℕ, Result, Ok, Err}
use Rattle.model.specs.declared.refusal.Refusal.{Refusal}
use Rattle.model.specs.declared.refusal.Refusal.TheVariants as refusal
use Rattle.local_docs.specs.declared.fault.LocalFault.{LocalFault}
use Rattle.local_docs.specs.declared.fault.LocalFault.TheVariants.{Conflict, Missing, LastCounter}

-- no write of a local document is refused for its history or as one of a deleted document
abbrev pub fault_of : Refusal → LocalFault
fault_of refusal.Conflict = Conflict
fault_of refusal.Missing = Missing
fault_of refusal.GenerationLimit = LastCounter
fault_of refusal.BadHistory = Conflict
fault_of refusal.Deleted = Conflict

abbrev pub written_or_fault : Result ℕ Refusal → Result ℕ LocalFault
written_or_fault (Ok counter) = Ok counter
written_or_fault (Err why) = Err (fault_of why)
