-- A copy of a database's records, stripped, that is made document by document.
use Rattle.std.specs.Prelude.{◌≡◌, ◌<◌, ◌≤◌, List, [], ◌∷◌, map, Option, Some, None}
use Rattle.model.specs.Map.{Map, entries, get, put, without}
use Rattle.model.specs.Command.{Id, names}
use Rattle.model.specs.Database.{Database, Record}
use Rattle.model.specs.Compaction.{strip_at}

abbrev pub put_or_not : Map names Record → Id → Option Record → Map names Record
put_or_not docs id None = without docs id
put_or_not docs id (Some r) = put docs id r

-- with the strip of the document as it stands, or without the document where it doesn't
abbrev pub taken_one : Map names Record → Database → Id → Map names Record
taken_one docs d id = put_or_not docs id (strip_at d id)

-- one after another
abbrev pub taken_all : Map names Record → Database → List Id → Map names Record
taken_all docs d [] = docs
taken_all docs d (id ∷ ids) = taken_all (taken_one docs d id) d ids

abbrev pub ids_of : Map names Record → List Id
ids_of m = map (λ e. e.0) (entries m)

-- each record has a number that was given, and that no other document of the database has
pub record IsCoherent (docs : Map names Record) (d : Database) : Type 0 where
  pub within : (id : Id) (r : Record) → get docs id ≡ Some r → (0 < r.seq) × (r.seq ≤ d.update_seq)
  pub own : (id other : Id) (r s : Record) → get docs id ≡ Some r → get d.docs other ≡ Some s → s.seq ≡ r.seq → other ≡ id
