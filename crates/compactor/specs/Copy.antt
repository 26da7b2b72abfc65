-- A compaction's copy.
use Rattle.std.specs.Prelude.{◌≡◌, ◌-◌, ◌<◌, ◌≤◌, ℕ, zero, suc, List, [], ◌∷◌, length, take, Option, Some, None}
use Rattle.model.specs.Map.{Map, entries, empty, get}
use Rattle.model.specs.Command.{Id, names}
use Rattle.model.specs.Database.{Database, Record, compacted}
use Rattle.model.specs.History.{Chronicle, now}
use Rattle.model.specs.Compaction.{Marks, marks_of, Agrees}
use Rattle.snapshots.specs.Listing.{Listing}
use Rattle.snapshots.specs.Taken.{taken_all, IsCoherent, ids_of}

-- the history that a copy has seen, how many of its records are yet to be stripped, for each document what the copy
-- has of it (of a record that is yet to be stripped, its strip), the marks up to which it has taken all over, and how
-- many records the last call looked up
pub record CopyView : Type 0 where
  pub seen : Chronicle
  pub left : ℕ
  pub docs : Map names Record
  pub marks : Marks
  pub visited : ℕ

abbrev pub copied : ℕ → Map names Record → Chronicle → Map names Record
copied zero docs seen = docs
copied (suc n) docs seen = (compacted (now seen)).docs

abbrev pub copy_of : Chronicle → ℕ → Map names Record → ℕ → ℕ → ℕ → CopyView
copy_of seen left docs update purge visited = record { seen = seen; left = left; docs = copied left docs seen; marks = record { update = update; purge = purge }; visited = visited }

-- the last of them, or the one before them
abbrev pub last_id : Option Id → List Id → Option Id
last_id o [] = o
last_id o (id ∷ ids) = last_id (Some id) ids

-- the first documents are copied, and `left` are not
pub record IsSlicing (d : Database) (last : Option Id) (left : ℕ) (docs : Map names Record) (m : Marks) : Type 0 where
  pub marks : m ≡ marks_of d
  pub few : left ≤ length (entries d.docs)
  pub docs_are : docs ≡ taken_all empty d (take (length (entries d.docs) - left) (ids_of d.docs))
  pub last_is : last ≡ last_id None (take (length (entries d.docs) - left) (ids_of d.docs))

-- the copy agrees with the database that it has seen, or it is yet being made of it
pub record IsCopy (d : Database) (last : Option Id) (left : ℕ) (records : Listing) (m : Marks) : Type 0 where
  pub upto : records.update_seq ≡ d.update_seq
  pub update : m.update ≤ d.update_seq
  pub purge : m.purge ≤ d.purges.purge_seq
  pub coherent : IsCoherent records.docs d
  pub agrees : left ≡ 0 → Agrees (get records.docs) m d
  pub slicing : 0 < left → IsSlicing d last left records.docs m
