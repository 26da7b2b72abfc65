-- What a list of events gives.
use Rattle.std.specs.Prelude.{◌≡◌, ℕ, List, Option, map, filter_map}
use Rattle.model.specs.Database.{Database}
use Rattle.model.specs.History.{IsLegal, base_of}
use Rattle.model.specs.Told.{AllTold, wrote, places_of, NoneFalls}
use Rattle.model.specs.World.{Config, World, Event, start_world, run}
use Rattle.machine.specs.declared.record.Record.{Record}
use Rattle.machine.specs.Events.{completed_of}

-- the world that the events lead to, from no entries over the base
abbrev pub world_of : Option Database → Config → List Event → World
world_of over c es = run (base_of over) c (start_world c) es

-- The history and the completed calls are those of that world. The history is legal over the base, records each completed
-- call and holds no other entry, and the places of a session's calls never fall.
pub record IsRun (over : Option Database) (c : Config) (es : List Event) (r : Record) : Type 0 where
  pub base : r.version.base ≡ over
  pub history : r.version.entries ≡ (world_of over c es).history
  pub completed : map completed_of r.completed.items ≡ (world_of over c es).completed
  pub legal : IsLegal (base_of over) r.version.entries
  pub told : AllTold (base_of over) r.version.entries (map completed_of r.completed.items)
  pub only : filter_map wrote (map completed_of r.completed.items) ≡ r.version.entries
  pub places : (s : ℕ) → NoneFalls 0 (places_of s (map completed_of r.completed.items))
