-- What a write must know of the record that it replaces.
use Rattle.std.specs.Prelude.{ℕ, List, Option, Some, None, option_map, if◌then◌else◌}
use Rattle.std.specs.Ordering.{nat_cmp}
use Rattle.cow_index.specs.Entries.{without}
use Rattle.model.specs.Map.{Map, get}
use Rattle.model.specs.Command.{Id, names}
use Rattle.model.specs.Database.{Record}
use Rattle.model.specs.Answers.{is_live}
use Rattle.snapshots.specs.declared.records.replaced.Replaced.{Replaced}

abbrev pub replaced : Record → Replaced
replaced r = record { seq = r.seq; is_live = is_live r }

-- of the record that the document has
abbrev pub replaced_at : Map names Record → Id → Option Replaced
replaced_at docs id = option_map replaced (get docs id)

abbrev pub live_of : Option Replaced → ℕ
live_of None = 0
live_of (Some r) = if r.is_live then 1 else 0

-- the index by update numbers, without the entry of the record
abbrev pub without_replaced : Option Replaced → List (ℕ × (Id × Record)) → List (ℕ × (Id × Record))
without_replaced None es = es
without_replaced (Some r) es = without nat_cmp r.seq es
