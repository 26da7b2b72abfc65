-- Why arguments name no run.
use Rattle.std.specs.Prelude.{Bool, true, false}
use Rattle.command_line.specs.declared.faults.ArgumentsFault.{ArgumentsFault}
use Rattle.command_line.specs.declared.faults.ArgumentsFault.TheVariants.{Memory, Version, Refused}

-- they ask for the version
abbrev pub asks_version : ArgumentsFault → Bool
asks_version Memory = false
asks_version (Version text) = true
asks_version (Refused text) = false
