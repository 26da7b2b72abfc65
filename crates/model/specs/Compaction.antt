-- A compaction in slices: what it has yet to take over, and when its copy agrees with the database.
use Rattle.std.specs.Prelude.{◌≡◌, ℕ, ◌⊎◌, Bool, true, false, List, [], ◌∷◌, ◌++◌, map, nat_lt, Option, option_map, unwrap_or, if◌then◌else◌}
use Rattle.std.specs.List.{list_any}
use Rattle.model.specs.Map.{get, same_key}
use Rattle.model.specs.Command.{Id, names}
use Rattle.model.specs.PurgeLog.{PurgeInfo, purges_since, is_overrun}
use Rattle.model.specs.Database.{Database, Record, stripped}
use Rattle.model.specs.Changes.{every_id, changed_since}

-- the update number and the purge number up to which a copy has taken all over
pub record Marks : Type 0 where
  pub update : ℕ
  pub purge : ℕ

abbrev pub marks_of : Database → Marks
marks_of d = record { update = d.update_seq; purge = d.purges.purge_seq }

-- a document that was purged or updated, with its number
pub data Touched : Type 0 where
  WasPurged WasUpdated : ℕ → Id → Touched

abbrev pub of_purge : PurgeInfo → Touched
of_purge p = WasPurged p.seq p.id

abbrev pub of_update : ℕ × (Id × Record) → Touched
of_update e = WasUpdated e.0 e.1.0

-- what lies above the marks: the logged purges in rising order, and then the records; a document may count in both
abbrev pub touched : Database → Marks → List Touched
touched d m = map of_purge (purges_since d.purges m.purge) ++ map of_update (changed_since every_id d m.update)

abbrev pub touched_id : Touched → Id
touched_id (WasPurged n id) = id
touched_id (WasUpdated n id) = id

-- the marks with one or more of the touched passed: each moves to the last number of its kind
abbrev pub past : Marks → Touched → Marks
past m (WasPurged n id) = record m { purge = n }
past m (WasUpdated n id) = record m { update = n }

abbrev pub passed : Marks → List Touched → Marks
passed m [] = m
passed m (t ∷ ts) = passed (past m t) ts

-- ---- agreement

-- a purge of id above the mark is in the log
abbrev pub is_logged : Database → ℕ → Id → Bool
is_logged d mark id = list_any (λ p. same_key names p.id id) (purges_since d.purges mark)

abbrev pub strip_at : Database → Id → Option Record
strip_at d id = option_map stripped (get d.docs id)

-- the record of id has an update number above the mark
abbrev pub is_updated : Database → ℕ → Id → Bool
is_updated d mark id = unwrap_or (option_map (λ r. nat_lt mark r.seq) (get d.docs id)) false

-- for each document, what the copy has is the record's strip, or the record was updated or purged after the marks
-- CouchDB: "Technical Overview", "Compaction"
abbrev pub Agrees : (Id → Option Record) → Marks → Database → Type 0
Agrees copy m d = (is_overrun d.purges m.purge ≡ true) ⊎ ((id : Id) → (copy id ≡ strip_at d id) ⊎ ((is_updated d m.update id ≡ true) ⊎ (is_logged d m.purge id ≡ true)))

-- the copy with the strips of these documents, as they stand
abbrev pub taken_over : (Id → Option Record) → Database → List Id → Id → Option Record
taken_over copy d ids id = if list_any (same_key names id) ids then strip_at d id else copy id
