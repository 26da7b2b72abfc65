-- How a program opens a database.
use Rattle.std.specs.Prelude.{ℕ, Option}
use Rattle.model.specs.Database.{Database}
use Rattle.model.specs.World.{Config}
use Rattle.sessions.specs.Known.{Known as KnownOfThreads}
use Rattle.session_api.specs.SessionCall.{SessionCall}
use Rattle.session_api.specs.Known.{Known}
use Rattle.session_calls.specs.Sessions.{Goes, known_of as known_of_session}

-- the numbers of a database with so many sessions, whose history may have so many entries
abbrev pub server_config : ℕ → ℕ → Config
server_config sessions max_places = record { sessions = sessions; queue = 256; gather = 32; slice = 256; slack = 16; tries = 8; max_places = max_places }

-- the numbers of a database with one session
abbrev pub program_config : Config
program_config = server_config 1 1000000

-- of a database over this base that was opened with these numbers
module _ (base : Option Database) (config : Config) where
  -- what a connection sees of what a session knows
  abbrev pub known_of : KnownOfThreads → Known
  known_of k = known_of_session base config config.sessions config.queue k

  -- by this call with this answer a session goes from what it knew to what it knows
  abbrev pub GoesBy : KnownOfThreads → SessionCall → KnownOfThreads → Type 0
  GoesBy old call new = Goes base config config.sessions config.queue old call new
