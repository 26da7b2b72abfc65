-- The copy of a compaction is swapped in.
use Rattle.std.specs.Prelude.{◌≡◌, ℕ, ◌<◌, ◌≤◌, Bool, false, [], ◌∷◌, length, Some, Option}
use Rattle.model.specs.Command.{Compact, Job, Seat}
use Rattle.model.specs.Database.{Database}
use Rattle.model.specs.PurgeLog.{is_overrun}
use Rattle.model.specs.History.{Chronicle, base_of}
use Rattle.model.specs.Compaction.{touched}
use Rattle.model.specs.World.{Config, World, Swap, step}
use Rattle.version_log.specs.Histories.{newest}
use Rattle.compactor.specs.Copy.{CopyView}
use Rattle.updater.specs.Batches.{joins}
use Rattle.updater_state.specs.State.{State, database_of, published_with}
use Rattle.updater_state.specs.Worlds.{IsOf}

-- the history that was published last, with its base
abbrev pub latest_of : Option Database → State → Chronicle
latest_of base s = record { base = base; entries = newest s.published }

-- a place is left
abbrev pub HasPlace : ℕ → State → Type 0
HasPlace max_places s = length (newest s.published) < max_places

-- a purge that the copy lacks is no longer in the log
abbrev pub is_past : Option Database → CopyView → State → Bool
is_past base copy s = is_overrun (database_of base s).purges copy.marks.purge

-- how many documents were touched that the copy has not taken over
abbrev pub behind_by : Option Database → CopyView → State → ℕ
behind_by base copy s = length (touched (database_of base s) copy.marks)

-- a compaction of this seat, as a job
abbrev pub compaction_of : Seat → Job
compaction_of seat = record { seat = seat; command = Compact }

-- a compaction of this seat is its session's next call, and no job of the batch is of the session
abbrev pub may_swap : Option Database → State → Seat → Bool
may_swap base s seat = joins (database_of base s) s.batch (compaction_of seat)

-- one publication more, whose history gains the entry of the compaction
abbrev pub after_swap : Option Database → State → Seat → State
after_swap base s seat = record s { published = published_with base s.published (compaction_of seat ∷ []) }

-- a compaction is published, where a place is left, and the copy lacks no lost purge and at most as many touched documents as the slack
pub record Swaps (base : Option Database) (config : Config) (copy : CopyView) (seat : Seat) (old new : State) : Type 0 where
  pub place : HasPlace config.max_places old
  pub within : is_past base copy old ≡ false
  pub few : behind_by base copy old ≤ config.slack
  pub swapped : new ≡ after_swap base old seat

-- The end of a compaction does to a world's history and batch what was done to the updater's, where the copy that is open
-- in the world is this one, and of this session.
abbrev pub IsSwap : Option Database → Config → CopyView → ℕ → State → State → Type 0
IsSwap base config copy session old new = (w : World) → w.copy ≡ Some (record { session = session; left = copy.left; marks = copy.marks }) → IsOf w old
    → IsOf (step (base_of base) config w Swap) new
