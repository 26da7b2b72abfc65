-- What is said of a write that was taken.
use Rattle.std.specs.Prelude.{ℕ, true, List, codes}
use Rattle.serde_json.specs.Data.{Data, string, boolean, object, no_members, member}
use Rattle.model.specs.Command.{Id}
use Rattle.model.specs.Revision.{Rev, rev_text}
use Rattle.document_json.specs.Local.{local_id}
use Rattle.document_json.specs.Written.{counter_text}

-- `{"id":i,"ok":true,"rev":r}`
-- CouchDB: PUT /{db}/{docid}, "id", "ok", "rev"
abbrev pub write_data : Id → List ℕ → Data
write_data id rev =
    object (member (codes "id") (string id) (member (codes "ok") (boolean true) (member (codes "rev") (string rev) no_members)))

-- CouchDB: PUT /{db}/{docid}, "id", "ok", "rev"
abbrev pub written_data : Id → Rev → Data
written_data id rev = write_data id (rev_text rev)

-- CouchDB: PUT /{db}/_local/{docid}, "id", "ok", "rev"
abbrev pub local_written_data : Id → ℕ → Data
local_written_data id counter = write_data (local_id id) (counter_text counter)
