-- Documents and revisions, as they are written.
use Rattle.std.specs.Prelude.{ℕ, Bool, true, false, List, [], ◌∷◌, ◌++◌, map, Option, Some, None, codes, decimal, length, not, ◌==◌, if◌then◌else◌}
use Rattle.hex.specs.Hex.{encode_lower}
use Rattle.serde_json.specs.Data.{Data, unsigned, number, string, boolean, array, object, Members, no_members, member, put}
use Rattle.serde_json.specs.View.{items_of}
use Rattle.serde_json.specs.Written.{comma_if}
use Rattle.json_profile.specs.Joined.{bare_text, front_of, join}
use Rattle.model.specs.Body.{Body}
use Rattle.model.specs.Command.{Id, Merge}
use Rattle.model.specs.Query.{Document}
use Rattle.model.specs.declared.status.Status.{Status}
use Rattle.model.specs.declared.status.Status.TheVariants.{Available, IsDeleted, NoBody}
use Rattle.model.specs.Revision.{Rev, rev_text}
use Rattle.document_json.specs.Local.{local_id}

-- ---- revisions

abbrev pub rev_data : Rev → Data
rev_data rev = string (rev_text rev)

abbrev pub revs_data : List Rev → Data
revs_data revs = array (items_of (map rev_data revs))

abbrev pub hash_data : Rev → Data
hash_data rev = string (encode_lower rev.hash)

abbrev pub start_of : List Rev → ℕ
start_of [] = 0
start_of (newest ∷ older) = newest.generation

-- `{"ids":[..],"start":n}`, newest first
-- CouchDB: GET /{db}/{docid}, "_revisions"
abbrev pub revisions_data : List Rev → Data
revisions_data revs =
    object (member (codes "ids") (array (items_of (map hash_data revs))) (member (codes "start") (number (unsigned (start_of revs))) no_members))

-- CouchDB: GET /{db}/{docid}, "_revs_info"
abbrev pub status_name : Status → List ℕ
status_name Available = codes "available"
status_name IsDeleted = codes "deleted"
status_name NoBody = codes "missing"

-- `{"rev":r,"status":t}`
-- CouchDB: GET /{db}/{docid}, "_revs_info"
abbrev pub info_data : Rev × Status → Data
info_data info = object (member (codes "rev") (rev_data info.0) (member (codes "status") (string (status_name info.1)) no_members))

-- CouchDB: GET /{db}/{docid}, "_revs_info"
abbrev pub infos_data : List (Rev × Status) → Data
infos_data infos = array (items_of (map info_data infos))

-- ---- a document

abbrev pub with_flag : List ℕ → Bool → Members → Members
with_flag name flag members = if flag then put name (boolean true) members else members

-- the revisions, unless there are none
abbrev pub with_revs : List ℕ → List Rev → Members → Members
with_revs name [] members = members
with_revs name (rev ∷ revs) members = put name (revs_data (rev ∷ revs)) members

abbrev pub with_revisions : Option (List Rev) → Members → Members
with_revisions None members = members
with_revisions (Some revs) members = put (codes "_revisions") (revisions_data revs) members

abbrev pub with_infos : Option (List (Rev × Status)) → Members → Members
with_infos None members = members
with_infos (Some infos) members = put (codes "_revs_info") (infos_data infos) members

-- a body's members, with what names the revision
-- CouchDB: GET /{db}/{docid}, "_id", "_rev", "_deleted"
abbrev pub named_members : Id → Rev → Bool → Members → Members
named_members id rev deleted body = with_flag (codes "_deleted") deleted (put (codes "_rev") (rev_data rev) (put (codes "_id") (string id) body))

-- what was asked beside the body
-- CouchDB: GET /{db}/{docid}, "_revisions", "_revs_info", "_conflicts", "_deleted_conflicts"
abbrev pub told_members : Document → Members → Members
told_members d members =
    with_revs (codes "_deleted_conflicts") d.deleted_conflicts (with_revs (codes "_conflicts") d.conflicts
    (with_infos d.revs_info (with_revisions d.revisions members)))

-- CouchDB: GET /{db}/{docid}
abbrev pub document_data : Document → Data
document_data d = object (told_members d (named_members d.id d.rev d.deleted d.body))

-- a revision from elsewhere as a document with its path, newest first
-- CouchDB: POST /{db}/_bulk_docs, "new_edits", "_revisions"
abbrev pub document_of : Merge → Document
document_of m = record {
  id = m.id;
  rev = m.newest;
  deleted = m.deleted;
  body = m.body;
  revisions = Some (m.newest ∷ m.older);
  revs_info = None;
  conflicts = [];
  deleted_conflicts = [];
}

-- `{"_deleted":true,"_id":i,"_rev":r,"_revisions":{..},..}`, the first only of a deletion
-- CouchDB: POST /{db}/_bulk_docs, "new_edits", "_revisions"
abbrev pub merge_data : Merge → Data
merge_data m = document_data (document_of m)

-- ---- the special members alone, as they are written

abbrev pub flag_member : Bool → Members
flag_member deleted = if deleted then member (codes "_deleted") (boolean true) no_members else no_members

abbrev pub revs_member : List ℕ → List Rev → Members
revs_member name [] = no_members
revs_member name (rev ∷ revs) = member name (revs_data (rev ∷ revs)) no_members

abbrev pub revisions_member : Option (List Rev) → Members
revisions_member None = no_members
revisions_member (Some revs) = member (codes "_revisions") (revisions_data revs) no_members

abbrev pub infos_member : Option (List (Rev × Status)) → Members
infos_member None = no_members
infos_member (Some infos) = member (codes "_revs_info") (infos_data infos) no_members

-- in the order of their names
abbrev pub special_members : Document → Members
special_members d =
    join (revs_member (codes "_conflicts") d.conflicts) (join (flag_member d.deleted) (join (revs_member (codes "_deleted_conflicts") d.deleted_conflicts)
    (member (codes "_id") (string d.id) (member (codes "_rev") (rev_data d.rev)
    (join (revisions_member d.revisions) (infos_member d.revs_info))))))

-- a body's text up to where they go
abbrev pub front_text : Members → List ℕ
front_text body =
    let front : List ℕ = bare_text false (front_of body) in
    (123 ∷ front) ++ comma_if (not (length front == 0))

-- ---- a local document

-- `0-k`
-- CouchDB: PUT /{db}/_local/{docid}, "rev"
abbrev pub counter_text : ℕ → List ℕ
counter_text counter = codes "0-" ++ decimal counter

-- CouchDB: GET /{db}/_local/{docid}
abbrev pub local_data : Id → ℕ × Body → Data
local_data id local = object (put (codes "_rev") (string (counter_text local.0)) (put (codes "_id") (string (local_id id)) local.1))
