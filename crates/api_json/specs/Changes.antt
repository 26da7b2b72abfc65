-- The changes, as answers write them.
use Rattle.std.specs.Prelude.{ℕ, ◌++◌, Bool, true, false, List, [], ◌∷◌, map, codes, if◌then◌else◌}
use Rattle.serde_json.specs.Data.{Data, unsigned, number, string, boolean, array, object, Members, no_members, member}
use Rattle.serde_json.specs.View.{items_of}
use Rattle.serde_json.specs.Written.{compact_text}
use Rattle.model.specs.Query.{Row, ChangesPage}
use Rattle.model.specs.Revision.{Rev}
use Rattle.document_json.specs.Written.{rev_data}

-- `{"rev":r}`
-- CouchDB: GET /{db}/_changes, "results"
abbrev pub named_rev_data : Rev → Data
named_rev_data rev = object (member (codes "rev") (rev_data rev) no_members)

-- CouchDB: GET /{db}/_changes, "results"
abbrev pub leaves_data : List Rev → Data
leaves_data revs = array (items_of (map named_rev_data revs))

-- the member `deleted`, where the winner is
-- CouchDB: GET /{db}/_changes, "results"
abbrev pub deleted_first : Bool → Members → Members
deleted_first deleted members = if deleted then member (codes "deleted") (boolean true) members else members

-- `{"changes":[..],"deleted":true,"id":i,"seq":n}`, `deleted` only where the winner is
-- CouchDB: GET /{db}/_changes, "results"
abbrev pub row_data : Row → Data
row_data row =
    object (member (codes "changes") (leaves_data row.changes) (deleted_first row.deleted
    (member (codes "id") (string row.id) (member (codes "seq") (number (unsigned row.seq)) no_members))))

-- what comes between the changes of a row and its id, of a row whose winner is deleted and of one whose winner is not
abbrev pub before_id : Bool → List ℕ
before_id true = codes ",\"deleted\":true,\"id\":"
before_id false = codes ",\"id\":"

-- a row of a feed that gives one a line
-- CouchDB: GET /{db}/_changes, "feed"
abbrev pub feed_line : Row → List ℕ
feed_line row = compact_text (row_data row) ++ 10 ∷ []

-- `[row,..]`
-- CouchDB: GET /{db}/_changes, "results"
abbrev pub rows_data : List Row → Data
rows_data rows = array (items_of (map row_data rows))

-- `{"last_seq":n,"pending":p,"results":[row,..]}`
-- CouchDB: GET /{db}/_changes, "last_seq", "pending", "results"
abbrev pub page_data : ChangesPage → Data
page_data page =
    object (member (codes "last_seq") (number (unsigned page.last_seq)) (member (codes "pending") (number (unsigned page.pending))
    (member (codes "results") (rows_data page.rows) no_members)))
