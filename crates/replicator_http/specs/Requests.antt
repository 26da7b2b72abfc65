-- The requests of a replication to a host.
use Rattle.std.specs.Prelude.{ℕ, Bool, true, false, List, [], map, Option, Some, None, codes}
use Rattle.serde_json.specs.Data.{Data, unsigned, number, string, boolean, array, object, Members, no_members, member}
use Rattle.serde_json.specs.View.{items_of}
use Rattle.serde_json.specs.Written.{compact_text}
use Rattle.percent_encoding.specs.declared.ascii_set.AsciiSet.{AsciiSet}
use Rattle.model.specs.Command.{Id, Merge, names}
use Rattle.model.specs.Map.{Map, entries}
use Rattle.model.specs.Revision.{Rev}
use Rattle.document_json.specs.Written.{counter_text, merge_data, revs_data}
use Rattle.api_json.specs.Objects.{members_from}
use Rattle.api_json.specs.Purge.{named_leaves}
use Rattle.http_client.specs.Request.{request_text}
use Rattle.http_client.specs.Target.{changes_target, filtered_changes_target, local_target, open_revs_target}

-- the changes above a number, at most so many rows
-- CouchDB: GET /{db}/_changes
abbrev pub changes_request : List ℕ → ℕ → ℕ → List ℕ
changes_request host since limit = request_text host (codes "GET") (changes_target since limit) []

-- `{"doc_ids":[i,..]}`
-- CouchDB: POST /{db}/_changes, "doc_ids"
abbrev pub doc_ids_data : List Id → Data
doc_ids_data ids = object (member (codes "doc_ids") (array (items_of (map string ids))) no_members)

-- the changes of these documents above a number, at most so many rows
-- CouchDB: POST /{db}/_changes, "filter"
abbrev pub filtered_changes_request : List ℕ → List Id → ℕ → ℕ → List ℕ
filtered_changes_request host ids since limit =
    request_text host (codes "POST") (filtered_changes_target since limit) (compact_text (doc_ids_data ids))

-- the changes of all documents, or of some where they are named
-- CouchDB: GET and POST /{db}/_changes
abbrev pub changes_request_of : List ℕ → Option (List Id) → ℕ → ℕ → List ℕ
changes_request_of host None since limit = changes_request host since limit
changes_request_of host (Some ids) since limit = filtered_changes_request host ids since limit

-- revisions of a document, whose id has these bytes escaped
-- CouchDB: GET /{db}/{docid}, "open_revs"
abbrev pub open_revs_request : List ℕ → AsciiSet → Id → List Rev → List ℕ
open_revs_request host set id revs = request_text host (codes "GET") (open_revs_target set id (compact_text (revs_data revs))) []

-- `{i:[r,..],..}`
-- CouchDB: POST /{db}/_revs_diff
abbrev pub asked_data : Map names (List Rev) → Data
asked_data asked = object (members_from (map named_leaves (entries asked)))

-- which of these revisions are not known
-- CouchDB: POST /{db}/_revs_diff
abbrev pub diff_request : List ℕ → Map names (List Rev) → List ℕ
diff_request host asked = request_text host (codes "POST") (codes "/db/_revs_diff") (compact_text (asked_data asked))

-- `{"docs":[..],"new_edits":false}`
-- CouchDB: POST /{db}/_bulk_docs, "docs", "new_edits"
abbrev pub bulk_data : List Merge → Data
bulk_data documents =
    object (member (codes "docs") (array (items_of (map merge_data documents))) (member (codes "new_edits") (boolean false) no_members))

-- documents with their paths
-- CouchDB: POST /{db}/_bulk_docs, "new_edits"
abbrev pub bulk_request : List ℕ → List Merge → List ℕ
bulk_request host documents = request_text host (codes "POST") (codes "/db/_bulk_docs") (compact_text (bulk_data documents))

-- the checkpoint of this id
-- CouchDB: GET /{db}/_local/{docid}
abbrev pub local_get_request : List ℕ → AsciiSet → Id → List ℕ
local_get_request host set id = request_text host (codes "GET") (local_target set id) []

abbrev pub rev_first : Option ℕ → Members → Members
rev_first None members = members
rev_first (Some counter) members = member (codes "_rev") (string (counter_text counter)) members

-- that documents are skipped, where they are
abbrev pub skip_last : Bool → Members
skip_last false = no_members
skip_last true = member (codes "skip") (boolean true) no_members

-- `{"_rev":"0-k","last_seq":n,"skip":true}`, the first only where a revision is named, and the last only where documents are skipped
-- CouchDB: "CouchDB Replication Protocol", "Record Replication Checkpoint"
abbrev pub checkpoint_data : Option ℕ → ℕ → Bool → Data
checkpoint_data named last_seq skips = object (rev_first named (member (codes "last_seq") (number (unsigned last_seq)) (skip_last skips)))

-- a checkpoint over the revision that is named, which says where documents are skipped
-- CouchDB: PUT /{db}/_local/{docid}
abbrev pub local_put_request : List ℕ → Bool → AsciiSet → Id → Option ℕ → ℕ → List ℕ
local_put_request host skips set id named last_seq =
    request_text host (codes "PUT") (local_target set id) (compact_text (checkpoint_data named last_seq skips))
