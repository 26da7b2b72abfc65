-- Histories: lists of entries, oldest first, from a base.
use Rattle.std.specs.Prelude.{◌≡◌, ◌≤◌, ◌+◌, ℕ, List, [], ◌∷◌, ◌++◌, filter, map, ⊤, Option, Some, None}
use Rattle.model.specs.Map.{empty, same_key}
use Rattle.model.specs.Command.{numbers, Command, Seat, Job, Entry}
use Rattle.model.specs.Database.{Database, IsDatabase, empty_database, reply_to, act, calls_of}

-- the database after the entries
abbrev pub replay : Database → List Entry → Database
replay base [] = base
replay base (e ∷ es) = replay (act base e.seat e.command) es

-- the seat is its session's next, and the reply is the database's
pub record IsNext (d : Database) (e : Entry) : Type 0 where
  pub seat : e.seat.call ≡ calls_of d e.seat.session + 1
  pub reply : e.reply ≡ reply_to d e.command

-- CouchDB: "Technical Overview", "ACID Properties"
abbrev pub IsLegal : Database → List Entry → Type 0
IsLegal base [] = ⊤
IsLegal base (e ∷ es) = IsNext base e × IsLegal (act base e.seat e.command) es

-- the entry that a command gets
abbrev pub entry_of : Database → Seat → Command → Entry
entry_of d seat command = record { seat = seat; command = command; reply = reply_to d command }

-- the entries of jobs, one after another
abbrev pub batch_entries : Database → List Job → List Entry
batch_entries d [] = []
batch_entries d (j ∷ js) = entry_of d j.seat j.command ∷ batch_entries (act d j.seat j.command) js

-- the job that an entry answers
abbrev pub job_of : Entry → Job
job_of e = record { seat = e.seat; command = e.command }

-- the entries of a session
abbrev pub of_session : ℕ → List Entry → List Entry
of_session s es = filter (λ e. same_key numbers s e.seat.session) es

abbrev pub calls_in : List Entry → List ℕ
calls_in = map (λ e. e.seat.call)

-- ---- a history with its base

-- the base that a history names, which is the empty database where it names none
abbrev pub base_of : Option Database → Database
base_of None = empty_database
base_of (Some d) = d

-- The first epoch of a store names no base. The next one names its own, which may be empty too.
pub record Chronicle : Type 0 where
  pub base : Option Database
  pub entries : List Entry

-- the database at its end
abbrev pub now : Chronicle → Database
now c = replay (base_of c.base) c.entries

-- the history with more entries
abbrev pub extended : Chronicle → List Entry → Chronicle
extended c es = record { base = c.base; entries = c.entries ++ es }

-- the largest number that a base may have given, so that every entry has room for its own
abbrev pub largest_base : ℕ
largest_base = 4611686018427387904

-- what a history can begin from: no session has called yet
pub record IsBase (d : Database) : Type 0 where
  pub database : IsDatabase d
  pub uncalled : d.calls ≡ empty
  pub updates : d.update_seq ≤ largest_base
  pub purges : d.purges.purge_seq ≤ largest_base

-- later begins with earlier
pub record Extends (later earlier : Chronicle) : Type 0 where
  pub base : later.base ≡ earlier.base
  pub more : List Entry
  pub entries : later.entries ≡ earlier.entries ++ more

-- the base of the next epoch: no session has called yet
abbrev pub successor : Database → Database
successor d = record d { calls = empty }

-- later goes on from earlier: in one epoch, or through the bases of the epochs between
pub data Follows : Chronicle → Chronicle → Type 0 where
  extends : (later earlier : Chronicle) → Extends later earlier → Follows later earlier
  reopened : (later middle earlier : Chronicle) → Follows middle earlier → later.base ≡ Some (successor (now middle)) → Follows later earlier
