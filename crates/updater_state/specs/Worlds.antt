-- What the updater does, as events of a world.
use Rattle.std.specs.Prelude.{◌≡◌, Option}
use Rattle.model.specs.Database.{Database}
use Rattle.model.specs.World.{Config, World, Event, step}
use Rattle.model.specs.History.{base_of}
use Rattle.version_log.specs.Histories.{newest}
use Rattle.updater_state.specs.State.{State}

-- the world has the history that was published last, and the updater's batch
pub record IsOf (w : World) (s : State) : Type 0 where
  pub history : w.history ≡ newest s.published
  pub batch : w.batch ≡ s.batch

-- over this base the event does to a world's history and batch what was done to the updater's
abbrev pub IsEvent : Option Database → Config → Event → State → State → Type 0
IsEvent base config event old new = (w : World) → IsOf w old → IsOf (step (base_of base) config w event) new
