-- What a session knows.
use Rattle.std.specs.Prelude.{ℕ, zero, suc, Bool, List, ◌++◌, slice_get, take, Option, None}
use Rattle.model.specs.Command.{Entry}
use Rattle.model.specs.Database.{Database}
use Rattle.model.specs.History.{Chronicle, replay, base_of, now}
use Rattle.model.specs.World.{WroteAt}
use Rattle.model.specs.Told.{Tells}

-- the session's number, the base that the history names, the most entries that the history can have, how many sessions
-- there are, how many jobs may wait, the entries that the session has seen, how many jobs it has pushed, and whether it
-- is lost
pub record Known : Type 0 where
  pub number : ℕ
  pub base : Option Database
  pub room : ℕ
  pub sessions : ℕ
  pub queue : ℕ
  pub seen : List Entry
  pub pushes : ℕ
  pub lost : Bool

-- the history that it has seen
abbrev pub history_of : Known → Chronicle
history_of k = record { base = k.base; entries = k.seen }

-- the entry at a place of it, from 1
abbrev pub entry_at : Known → ℕ → Option Entry
entry_at k zero = None
entry_at k (suc n) = slice_get k.seen n

-- the update number of what it has seen
abbrev pub update_seq_of : Known → ℕ
update_seq_of k = (now (history_of k)).update_seq

-- the database at a place of it
abbrev pub database_at : Known → ℕ → Database
database_at k place = replay (base_of k.base) (take place k.seen)

-- the same with more entries seen
abbrev pub sees_more : Known → List Entry → Known
sees_more k more = record k { seen = k.seen ++ more }

-- the same with so many jobs pushed, and lost or not
abbrev pub with_calls : Known → ℕ → Bool → Known
with_calls k pushes lost = record k { pushes = pushes; lost = lost }

-- the entry is at the place in what it has seen
abbrev pub HasEntryAt : Known → ℕ → Entry → Type 0
HasEntryAt k place entry = Tells (base_of k.base) k.seen (WroteAt entry.seat entry.command place entry.reply)
