-- The changes feed: each document once, at its last update. All records are sorted and filtered, with no index.
use Rattle.std.specs.Prelude.{◌≡◌, ℕ, ◌-◌, ◌==◌, ◌<◌, ◌≤◌, ◌&&◌, max, Bool, true, false, List, [], ◌∷◌, length, map, take, filter, nat_lt, Option, Some, None, option_map, unwrap_or, if◌then◌else◌}
use Rattle.std.specs.List.{list_any}
use Rattle.model.specs.Map.{Map, entries, get, put, from_list, same_key}
use Rattle.model.specs.Revision.{Rev}
use Rattle.model.specs.Tree.{Tree, leaves, winner, revs_of}
use Rattle.model.specs.Command.{Id, names, numbers, has_id_length}
use Rattle.model.specs.Query.{Style, MainOnly, AllDocs, Row, ChangesPage}
use Rattle.model.specs.Database.{Database, Record}

-- the documents at their update numbers, which no two share
abbrev pub at_numbers : Database → Map numbers (Id × Record)
at_numbers d = from_list (map (λ e. (e.1.seq, e)) (entries d.docs))

-- in the order of these numbers
-- CouchDB: "Technical Overview", "ACID Properties"
unfoldable pub by_seq : Database → List (ℕ × (Id × Record))
by_seq d = entries (at_numbers d)

-- of all documents
abbrev pub every_id : Id → Bool
every_id id = true

-- a feed may be of some documents alone
-- CouchDB: POST /{db}/_changes, "doc_ids"
abbrev pub wanted_by : Option (List Id) → Id → Bool
wanted_by None = every_id
wanted_by (Some ids) = λ id. list_any (same_key names id) ids

-- the documents that a list of texts names: each once, in the byte order; a text that is no identity names none
-- CouchDB: POST /{db}/_changes, "doc_ids"
abbrev pub ids_named : List Id → List Id
ids_named texts = map (λ e. e.0) (entries (from_list {O = names} (map (λ id. (id, id)) (filter has_id_length texts))))

-- the wanted documents with a number above `since`, in rising order
-- CouchDB: GET /{db}/_changes, "since"
abbrev pub changed_since : (Id → Bool) → Database → ℕ → List (ℕ × (Id × Record))
changed_since wanted d since = filter (λ e. nat_lt since e.0 && wanted e.1.0) (by_seq d)

-- CouchDB: GET /{db}/_changes, "style"
abbrev pub listed : Style → Tree → List Rev
listed MainOnly t = take 1 (revs_of (leaves t))
listed AllDocs t = revs_of (leaves t)

-- CouchDB: GET /{db}/_changes, "results"
abbrev pub has_deleted_winner : Tree → Bool
has_deleted_winner t = unwrap_or (option_map (λ l. l.deleted) (winner t)) false

-- CouchDB: GET /{db}/_changes, "results"
abbrev pub row : Style → ℕ × (Id × Record) → Row
row style e = record { seq = e.0; id = e.1.0; changes = listed style e.1.1.tree; deleted = has_deleted_winner e.1.1.tree }

-- CouchDB: GET /{db}/_changes, "since"
abbrev pub rows_since : (Id → Bool) → Database → ℕ → Style → List Row
rows_since wanted d since style = map (row style) (changed_since wanted d since)

-- the row of a wanted document with an update number above `since`
-- CouchDB: GET /{db}/_changes, "results"
pub record IsRowOf (wanted : Id → Bool) (d : Database) (since : ℕ) (style : Style) (r : Row) : Type 0 where
  pub document : Record
  pub known : get d.docs r.id ≡ Some document
  pub is_wanted : wanted r.id ≡ true
  pub above : since < document.seq
  pub tells : r ≡ row style (document.seq, (r.id, document))

-- the number of the last row, or `seq` where there is none
-- CouchDB: GET /{db}/_changes, "last_seq"
abbrev pub last_seq_of : ℕ → List Row → ℕ
last_seq_of seq [] = seq
last_seq_of seq (r ∷ rs) = last_seq_of r.seq rs

-- the first rows; a limit of 0 acts as 1, and no limit takes all
-- CouchDB: GET /{db}/_changes, "limit"
abbrev pub first_rows : Option ℕ → List Row → List Row
first_rows None rows = rows
first_rows (Some limit) rows = take (max 1 limit) rows

-- where no row is left, the feed goes on from the database's update number
-- CouchDB: GET /{db}/_changes, "last_seq", "pending", "results"
unfoldable pub changes_page : (Id → Bool) → Database → ℕ → Option ℕ → Style → ChangesPage
changes_page wanted d since limit style =
    let all = rows_since wanted d since style in
    let given = first_rows limit all in
    let left = length all - length given in
    record { last_seq = if left == 0 then d.update_seq else last_seq_of since given; pending = left; rows = given }

-- ---- followers

-- a follower's map from documents to rows is right from s up to c: it has, for each wanted record with an update
-- number above s and at most c, that record's row
-- CouchDB: "CouchDB Replication Protocol", "Locate Changed Documents"
abbrev pub IsRightFeed : (Id → Bool) → Style → Map names Row → ℕ → ℕ → Database → Type 0
IsRightFeed wanted style m s c d = (id : Id) (r : Record) → get d.docs id ≡ Some r → wanted id ≡ true → s < r.seq → r.seq ≤ c → get m id ≡ Some (row style (r.seq, (id, r)))

-- the map after the rows
-- CouchDB: "CouchDB Replication Protocol", "Locate Changed Documents"
abbrev pub fed : Map names Row → List Row → Map names Row
fed m [] = m
fed m (r ∷ rs) = fed (put m r.id r) rs
