-- An entry of the history.
use Rattle.std.specs.Prelude.{◌≡◌, ◌≤◌, ℕ, List, length, Some, option_map, Option}
use Rattle.model.specs.Command.{Entry, Reply}
use Rattle.model.specs.Database.{Database}
use Rattle.snapshots.specs.Version.{entry_at}
use Rattle.version_log.specs.Histories.{newest, Grows}

-- an entry of the history: what was published with it, its place and its reply
pub record Stands : Type 0 where
  pub published : List (List Entry)
  pub place : ℕ
  pub reply : Reply

-- the last published history has an entry with that reply at that place, and there were at most as many publications
pub record IsAnswer (base : Option Database) (s : Stands) : Type 0 where
  pub grows : Grows base s.published
  pub counted : length s.published ≤ s.place
  pub stands : option_map (λ (e : Entry). e.reply) (entry_at (newest s.published) s.place) ≡ Some s.reply
