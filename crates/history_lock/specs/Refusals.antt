-- Why a database is not opened.
use Rattle.std.specs.Prelude.{◌≡◌, ◌⊎◌}
use Rattle.sessions.specs.declared.fault.Fault.{Fault}
use Rattle.sessions.specs.declared.fault.Fault.TheVariants as fault

-- memory was refused, or a reader
abbrev pub IsRefusal : Fault → Type 0
IsRefusal f = (f ≡ fault.Memory) ⊎ (f ≡ fault.EntryRefused)
