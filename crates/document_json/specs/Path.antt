-- A path of revisions, as `_revisions` lists it.
use Rattle.std.specs.Prelude.{ℕ, ◌-◌, List, [], ◌∷◌, Option, Some, None, codes, option_map, option_and_then}
use Rattle.serde_json.specs.Data.{Data, Items, no_items, item}
use Rattle.serde_json.specs.Find.{as_array, as_number, as_str, as_u64, get}
use Rattle.model.specs.Revision.{Rev, last_generation}
use Rattle.document_json.specs.Numbers.{from_one}
use Rattle.document_json.specs.Revisions.{rev_with}

-- the revision of this generation whose hash the value is
abbrev pub rev_at : ℕ → Data → Option Rev
rev_at generation value = option_and_then (rev_with generation) (as_str value)

-- each one generation older than the one before; generations are from 1, so there are no more than the first says
abbrev pub revs_down : ℕ → Items → Option (List Rev)
revs_down generation no_items = Some []
revs_down generation (item hash older) =
    option_and_then (λ rev. option_map (λ revs. rev ∷ revs) (revs_down (generation - 1) older)) (rev_at generation hash)

-- a path has a newest revision
abbrev pub path_down : ℕ → Items → Option (List Rev)
path_down start no_items = None
path_down start (item newest older) = revs_down start (item newest older)

-- the generation of the newest
-- CouchDB: GET /{db}/{docid}, "_revisions"
abbrev pub start_in : Data → Option ℕ
start_in value = option_and_then (from_one last_generation) (option_and_then as_u64 (option_and_then as_number (get (codes "start") value)))

-- the hashes, from the newest
-- CouchDB: GET /{db}/{docid}, "_revisions"
abbrev pub hashes_in : Data → Option Items
hashes_in value = option_and_then as_array (get (codes "ids") value)

-- the revisions, from the newest
-- CouchDB: GET /{db}/{docid}, "_revisions"
abbrev pub path_in : Data → Option (List Rev)
path_in value = option_and_then (λ start. option_and_then (path_down start) (hashes_in value)) (start_in value)
