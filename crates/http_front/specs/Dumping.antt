-- A run of a program that serves one connection, and reports its history.
use Rattle.std.specs.Prelude.{◌≡◌, ℕ, ◌⊎◌, List, Option, None}
use Rattle.model.specs.Database.{Database}
use Rattle.model.specs.History.{Chronicle}
use Rattle.history_lock.specs.Ending.{Ending}
use Rattle.history_dump.specs.Dump.{dump_text}
use Rattle.streams.specs.Ends.{Ends}
use Rattle.streams.specs.Streams.{Streams}
use Rattle.http_connection.specs.declared.outcome.Ended.{Ended}
use Rattle.http_front.specs.Opening.{program_config}
use Rattle.http_front.specs.Once.{ServesDatabase, OpensNone, exit_status}

-- the same reader, with a writer that keeps nothing and never fails
abbrev pub unwritten : Streams → Streams
unwritten streams = record streams { taken = None; failed_writes = 0 }

-- The dump of the history was written, and the status is the right one; or a write failed after a part of it, or memory
-- for it was refused and nothing was written, and the status is 1. The writer's bytes and its count of failures are those
-- before and after.
abbrev pub WritesDump : Option (List ℕ) → Option (List ℕ) → ℕ → ℕ → Chronicle → ℕ → ℕ → Type 0
WritesDump old new failed_old failed_new history right status =
    Ends old new failed_old failed_new (dump_text history) right status ⊎ ((new ≡ old) × (failed_new ≡ failed_old) × (status ≡ 1))

-- a connection was served whose responses went nowhere, and the dump of the last history was written
pub record DumpsDatabase (base : Option Database) (before after : Streams) (status : ℕ) : Type 0 where
  pub ended : Ended
  pub end : Ending
  pub served : ServesDatabase base program_config (unwritten before) (unwritten after) ended end
  pub written : WritesDump before.taken after.taken before.failed_writes after.failed_writes (record { base = base; entries = end.history }) (exit_status ended.cause) status

abbrev pub DumpsOnce : Option Database → Streams → Streams → ℕ → Type 0
DumpsOnce base before after status = DumpsDatabase base before after status ⊎ OpensNone before after status
