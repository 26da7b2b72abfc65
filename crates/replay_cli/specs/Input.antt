-- How failed reads are counted while an input is read.
use Rattle.std.specs.Prelude.{◌≡◌, ℕ, Result, Ok, Err}
use Rattle.streams.specs.Counts.{CountRose}
use Rattle.replay_cli.specs.declared.input.InputFault.{InputFault}
use Rattle.replay_cli.specs.declared.input.InputFault.TheVariants as fault

-- the count rose exactly where a read failed
abbrev pub CountsReads : {A : Type 0} → ℕ → ℕ → Result A InputFault → Type 0
CountsReads old new (Ok _) = new ≡ old
CountsReads old new (Err fault.Memory) = new ≡ old
CountsReads old new (Err fault.Failed) = CountRose old new
