-- What a compaction of a session leaves.
use Rattle.std.specs.Prelude.{◌≡◌, ℕ, ◌+◌, true, length, Option, if◌then◌else◌}
use Rattle.model.specs.Database.{Database}
use Rattle.model.specs.History.{Chronicle}
use Rattle.model.specs.World.{Config}
use Rattle.compactor.specs.declared.fault.CopyFault.{CopyFault}
use Rattle.compactor.specs.declared.fault.CopyFault.TheVariants as copied
use Rattle.updater_state.specs.Callers.{risen}
use Rattle.updater_state.specs.Tries.{has_stood}
use Rattle.updater_state.specs.declared.trying.Swapped.{Swapped}
use Rattle.updater_state.specs.declared.trying.Swapped.TheVariants as swapped
use Rattle.sessions.specs.Known.{Known, seen}
use Rattle.sessions.specs.Calls.{Looks}
use Rattle.sessions.specs.declared.fault.Fault.{Fault}
use Rattle.sessions.specs.declared.fault.Fault.TheVariants as fault

-- the history that a session has seen, with its base
abbrev pub chronicle_of : Option Database → Known → Chronicle
chronicle_of base k = record { base = base; entries = seen k }

-- why a session has no receipt, by why its copy did not go on
abbrev pub fault_of : CopyFault → Fault
fault_of copied.Behind = fault.Behind
fault_of copied.Overrun = fault.Overrun
fault_of copied.Memory = fault.Memory

-- after a compaction that learned of no entry: the session has only looked, and was behind more often
abbrev pub OnlyLooks : Option Database → Known → Known → Type 0
OnlyLooks base old new = Looks base (record old { tried = new.tried }) new

-- After a fault of a try the session has only looked. One that is lost is so for ever, and a full history was seen.
abbrev pub LeavesTry : Option Database → Config → Fault → Known → Known → Type 0
LeavesTry base config fault.Busy old new = ⊥
LeavesTry base config fault.Lost old new = Looks base (record old { tried = new.tried; entered = new.entered; lost = true }) new
LeavesTry base config fault.Full old new = OnlyLooks base old new × (length (seen new) ≡ config.max_places)
LeavesTry base config fault.Memory old new = OnlyLooks base old new
LeavesTry base config fault.EntryRefused old new = OnlyLooks base old new
LeavesTry base config fault.Behind old new = ⊥
LeavesTry base config fault.Overrun old new = OnlyLooks base old new

-- So it is after a fault of a compaction, which is behind once each of the tries that there may be was.
abbrev pub Leaves : Option Database → Config → Fault → Known → Known → Type 0
Leaves base config fault.Busy old new = ⊥
Leaves base config fault.Lost old new = Looks base (record old { tried = new.tried; entered = new.entered; lost = true }) new
Leaves base config fault.Full old new = OnlyLooks base old new × (length (seen new) ≡ config.max_places)
Leaves base config fault.Memory old new = OnlyLooks base old new
Leaves base config fault.EntryRefused old new = OnlyLooks base old new
Leaves base config fault.Behind old new = OnlyLooks base old new × (new.tried ≡ risen old.tried config.tries)
Leaves base config fault.Overrun old new = OnlyLooks base old new

-- after a try of a compaction: until it has a receipt for its entry, the session is lost
abbrev pub after_try : {J : Type 0} → Known → Swapped J → Known
after_try k (swapped.Stood s) = record k { entered = k.entered + 1; lost = true }
after_try k swapped.Behind = record k { tried = risen k.tried 1 }
after_try k (swapped.Full found) = k
after_try k swapped.Overrun = k
after_try k swapped.Memory = k
after_try k swapped.Lost = k

-- how many entries it has learned of, with how a try ended
abbrev pub entered_by : {J : Type 0} → ℕ → Swapped J → ℕ
entered_by entered s = if has_stood s then entered + 1 else entered
