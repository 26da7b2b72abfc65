-- Which faults a call can have.
use Rattle.sessions.specs.declared.fault.Fault.{Fault}
use Rattle.sessions.specs.declared.fault.Fault.TheVariants as fault
use Rattle.std.specs.Prelude.{⊤}

-- those of a write
abbrev pub IsOfWrite : Fault → Type 0
IsOfWrite fault.Memory = ⊤
IsOfWrite fault.Busy = ⊤
IsOfWrite fault.Lost = ⊤
IsOfWrite fault.Full = ⊤
IsOfWrite fault.EntryRefused = ⊥
IsOfWrite fault.Behind = ⊥
IsOfWrite fault.Overrun = ⊥

-- those that what became of a write's job can give
abbrev pub IsOfOutcome : Fault → Type 0
IsOfOutcome fault.Memory = ⊤
IsOfOutcome fault.Lost = ⊤
IsOfOutcome fault.Full = ⊤
IsOfOutcome fault.Busy = ⊥
IsOfOutcome fault.EntryRefused = ⊥
IsOfOutcome fault.Behind = ⊥
IsOfOutcome fault.Overrun = ⊥

-- those of a compaction
abbrev pub IsOfCompaction : Fault → Type 0
IsOfCompaction fault.Memory = ⊤
IsOfCompaction fault.Lost = ⊤
IsOfCompaction fault.Full = ⊤
IsOfCompaction fault.EntryRefused = ⊤
IsOfCompaction fault.Behind = ⊤
IsOfCompaction fault.Overrun = ⊤
IsOfCompaction fault.Busy = ⊥

-- those for which a copy is not made, or not caught up
abbrev pub IsOfCopy : Fault → Type 0
IsOfCopy fault.Overrun = ⊤
IsOfCopy fault.Memory = ⊤
IsOfCopy fault.Behind = ⊥
IsOfCopy fault.Busy = ⊥
IsOfCopy fault.Lost = ⊥
IsOfCopy fault.Full = ⊥
IsOfCopy fault.EntryRefused = ⊥
