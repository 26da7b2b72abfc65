-- A run of a program that serves the connections of a listener.
use Rattle.std.specs.Prelude.{◌≡◌, ℕ, ◌<◌, Bool, true, false, List, length, slice_index_or, Option}
use Rattle.model.specs.Database.{Database}
use Rattle.model.specs.World.{Config}
use Rattle.history_lock.specs.Ending.{Ending, Ends}
use Rattle.sessions.specs.Known.{Known as KnownOfThreads, fresh}
use Rattle.http_workers.specs.Worker.{ServesCounted}
use Rattle.http_front.specs.Opening.{GoesBy, known_of, server_config}

-- how often a wait for changes looks
unfoldable pub server_turns : ℕ
server_turns = 100000

-- Each session of a database that was opened over this base with these numbers served connections, and the database was
-- closed: its last history is legal, goes on from what each of them has seen, and has exactly the entries with a receipt of
-- each that is not lost.
pub record ServesSessions (base : Option Database) (config : Config) (turns connections : ℕ) : Type 0 where
  pub finals : List KnownOfThreads
  pub count : length finals ≡ config.sessions
  pub each : (i : ℕ) (d : KnownOfThreads) → i < config.sessions
      → ServesCounted (GoesBy base config) (known_of base config) turns connections (fresh i) (slice_index_or finals i d)
  pub end : Ending
  pub ends : Ends base finals end

-- the exit status of a server that served, or whose database was not opened, since it, its routes or a reader was refused
abbrev pub server_status : Bool → ℕ
server_status true = 0
server_status false = 1

-- the status says whether the sessions served
pub record ServesListener (base : Option Database) (workers max_places connections status : ℕ) : Type 0 where
  pub served : Bool
  pub tells : status ≡ server_status served
  pub sessions : served ≡ true → ServesSessions base (server_config workers max_places) server_turns connections
