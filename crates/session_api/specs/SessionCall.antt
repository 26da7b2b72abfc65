-- The calls of a session.
use Rattle.std.specs.Prelude.{ℕ, Bool, Result, ⊤}
use Rattle.model.specs.Command.{Command}
use Rattle.session_api.specs.declared.fault.CallFault.{CallFault}

-- a call of a session, with its answer
pub data SessionCall : Type 0 where
  -- it looked at what is there now
  Refreshed : Result ⊤ CallFault → SessionCall
  -- it wrote a command, or compacted; the answer is the place of the entry
  Wrote : Command → Result ℕ CallFault → SessionCall
  -- it waited for an update number above the first number, in at most so many looks; the answer is whether one came
  Waited : ℕ → ℕ → Result Bool CallFault → SessionCall
