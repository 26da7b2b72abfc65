-- How a try of a compaction ends under the lock.
use Rattle.std.specs.Prelude.{◌≡◌, ◌⊎◌, ◌+◌, ◌<◌, ◌≤◌, Bool, true, false, List, length, Option}
use mathlib.Core.List.{IsPrefix}
use Rattle.model.specs.Command.{Entry, Seat, Done}
use Rattle.model.specs.Database.{Database}
use Rattle.model.specs.World.{Config}
use Rattle.version_log.specs.Histories.{newest}
use Rattle.compactor.specs.Copy.{CopyView}
use Rattle.updater_state.specs.State.{State}
use Rattle.updater_state.specs.Swaps.{HasPlace, Swaps, may_swap, is_past, behind_by}
use Rattle.updater_state.specs.declared.trying.Swapped.{Swapped}
use Rattle.updater_state.specs.declared.trying.Swapped.TheVariants as swapped

-- what was published last is not later than what the session has seen, or more was touched since than the slack allows
abbrev pub IsBehind : Option Database → Config → CopyView → List (List Entry) → State → Type 0
IsBehind base config copy seen s = IsPrefix s.published seen ⊎ (HasPlace config.max_places s × (is_past base copy s ≡ false) × (config.slack < behind_by base copy s))

-- The copy is swapped in, with the configuration's slack, and the entry is reported; or nothing changes, and this is why.
abbrev pub EndsTry : {J : Type 0} → Option Database → Config → CopyView → Seat → List (List Entry) → State → State → Swapped J → Type 0
EndsTry base config copy seat seen old new (swapped.Stood s) = Swaps base config copy seat old new × (s ≡ record { published = new.published; place = length (newest old.published) + 1; reply = Done })
EndsTry base config copy seat seen old new (swapped.Full found) = (new ≡ old) × (found ≡ old.published) × (config.max_places ≤ length (newest old.published))
EndsTry base config copy seat seen old new swapped.Behind = (new ≡ old) × IsBehind base config copy seen old
EndsTry base config copy seat seen old new swapped.Overrun = (new ≡ old) × HasPlace config.max_places old × (is_past base copy old ≡ true)
EndsTry base config copy seat seen old new swapped.Memory = new ≡ old
EndsTry base config copy seat seen old new swapped.Lost = (new ≡ old) × (may_swap base old seat ≡ false)

-- the compaction has an entry
abbrev pub has_stood : {J : Type 0} → Swapped J → Bool
has_stood (swapped.Stood s) = true
has_stood swapped.Behind = false
has_stood (swapped.Full found) = false
has_stood swapped.Overrun = false
has_stood swapped.Memory = false
has_stood swapped.Lost = false
