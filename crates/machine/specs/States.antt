-- What a machine is, and what it keeps.
use Rattle.std.specs.Prelude.{◌≡◌, ◌+◌, ◌<◌, ◌≤◌, ℕ, true, List, [], ◌∷◌, ◌++◌, length, map, All, Option, None, option_map, IfSome}
use Rattle.model.specs.Command.{Job, Entry, Compact}
use Rattle.model.specs.Database.{Database, calls_of}
use Rattle.model.specs.History.{Chronicle, Extends, base_of, now, entry_of}
use Rattle.model.specs.World.{Config, World, Event, OpenCopy, viewing, start_world, step, run}
use Rattle.machine.specs.declared.completed.Completed.{Completed}
use Rattle.machine.specs.declared.copying.Copying.{Copying}
use Rattle.machine.specs.declared.views.SessionView.{SessionView}
use Rattle.machine.specs.Events.{completed_of, wrote_at}
use Rattle.machine.specs.Views.{views_of}

-- a world, the base that its history names, and its configuration
pub record State : Type 0 where
  pub base : Option Database
  pub config : Config
  pub world : World

abbrev pub start_state : Option Database → Config → State
start_state base c = record { base = base; config = c; world = start_world c }

abbrev pub stepped : State → Event → State
stepped s e = record s { world = step (base_of s.base) s.config s.world e }

abbrev pub chronicle_in : State → Chronicle
chronicle_in s = record { base = s.base; entries = s.world.history }

-- the entry of a session's compaction
abbrev pub compact_entry : Chronicle → ℕ → Entry
compact_entry c session = entry_of (now c) (record { session = session; call = calls_of (now c) session + 1 }) Compact

-- with that entry, which the session sees
abbrev pub swapped_in : State → ℕ → State
swapped_in s session = record s {
  world = record s.world {
    history = s.world.history ++ compact_entry (chronicle_in s) session ∷ [];
    views = viewing s.world.views session (length s.world.history + 1) true;
    copy = None;
    completed = s.world.completed ++ wrote_at (length s.world.history + 1) (compact_entry (chronicle_in s) session) ∷ [];
  };
}

-- a list of events leads from the start to the state
pub record IsReached (s : State) : Type 0 where
  pub events : List Event
  pub by_them : s.world ≡ run (base_of s.base) s.config (start_world s.config) events

abbrev pub open_copy : Copying → OpenCopy
open_copy k = record { session = k.session; left = k.compaction.left; marks = k.compaction.marks }

abbrev pub state_of : Chronicle → Config → List Job → List Job → List SessionView → Option Copying → List Completed → State
state_of version c waiting batch views copy completed = record {
  base = version.base;
  config = c;
  world = record {
    waiting = waiting;
    batch = batch;
    history = version.entries;
    views = views_of views;
    copy = option_map open_copy copy;
    completed = map completed_of completed;
  };
}

-- the job is of one of so many sessions
abbrev pub IsOfSession : ℕ → Job → Type 0
IsOfSession sessions j = j.seat.session < sessions

-- the compaction is of one of so many sessions, and has seen a beginning of the history
pub record IsUnderWay (version : Chronicle) (sessions : ℕ) (k : Copying) : Type 0 where
  pub session : k.session < sessions
  pub follows : Extends version k.compaction.seen

-- the state is reached; each session saw a beginning of the history
pub record IsMachine (version : Chronicle) (s : State) (views : List SessionView) (copy : Option Copying) : Type 0 where
  pub reached : IsReached s
  pub few : length views ≤ 64
  pub places : s.config.max_places ≤ 4294967295
  pub waiting : All (IsOfSession (length views)) s.world.waiting
  pub batch : All (IsOfSession (length views)) s.world.batch
  pub seen : All (λ v. Extends version v.version) views
  pub copying : IfSome copy (IsUnderWay version (length views))
