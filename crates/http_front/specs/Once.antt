-- A run of a program that serves one connection.
use Rattle.std.specs.Prelude.{◌≡◌, ℕ, ◌⊎◌, [], ◌∷◌, Option}
use Rattle.model.specs.Database.{Database}
use Rattle.model.specs.World.{Config}
use Rattle.history_lock.specs.Ending.{Ending, Ends}
use Rattle.streams.specs.Streams.{Streams}
use Rattle.http_connection.specs.declared.outcome.Ended.{Ended}
use Rattle.http_connection.specs.declared.outcome.Cause.{Cause}
use Rattle.http_connection.specs.declared.outcome.Cause.TheVariants as cause
use Rattle.sessions.specs.Known.{Known as KnownOfThreads, fresh}
use Rattle.http_turns.specs.Connection.{IsConnection}
use Rattle.http_front.specs.Opening.{GoesBy, known_of, program_config}

-- the exit status
abbrev pub exit_status : Cause → ℕ
exit_status cause.AtEnd = 0
exit_status cause.InRequest = 0
exit_status cause.Closed = 0
exit_status cause.ReadFault = 1
exit_status cause.WriteFault = 1
exit_status cause.Memory = 1

-- how often a wait for changes looks, where nobody else changes the database
abbrev pub once_turns : ℕ
once_turns = 1

-- The only session of a database that was opened over this base with these numbers served a connection, and the database
-- was closed: its last history is legal, goes on from what the session had seen, and has exactly its entries with a
-- receipt. The session is named lost exactly where a call was answered so, or where the history has not as many.
pub record ServesDatabase (base : Option Database) (config : Config) (before after : Streams) (ended : Ended) (end : Ending) : Type 0 where
  pub final : KnownOfThreads
  pub connection : IsConnection (GoesBy base config) (known_of base config) once_turns before after (fresh 0) final ended
  pub ends : Ends base (final ∷ []) end

-- a connection was served, whose end is reported by this status
pub record EndsConnection (base : Option Database) (before after : Streams) (status : ℕ) : Type 0 where
  pub ended : Ended
  pub end : Ending
  pub served : ServesDatabase base program_config before after ended end
  pub tells : status ≡ exit_status ended.cause

-- No database was opened, since it, its routes or a reader was refused: then nothing was read or written.
pub record OpensNone (before after : Streams) (status : ℕ) : Type 0 where
  pub same : after ≡ before
  pub tells : status ≡ 1

abbrev pub ServesOnce : Option Database → Streams → Streams → ℕ → Type 0
ServesOnce base before after status = EndsConnection base before after status ⊎ OpensNone before after status
