-- A command, as a line of a dump has it.
use Rattle.std.specs.Prelude.{ℕ, Bool, true, false, List, ◌∷◌, map, Option, Some, None, codes}
use Rattle.serde_json.specs.Data.{Data, unsigned, number, string, boolean, array, object, Members, no_members, member}
use Rattle.serde_json.specs.View.{items_of}
use Rattle.model.specs.Body.{Body}
use Rattle.model.specs.Command.{Id, Edit, Merge, Command, Edits, Merges, PutLocal, Purge, SetLimit, SetPurgedLimit, Compact}
use Rattle.model.specs.Revision.{Rev}
use Rattle.document_json.specs.Written.{rev_data, revs_data}
use Rattle.api_json.specs.Purge.{removed_data}

-- `rev`, only where a revision is named
abbrev pub rev_member : Option Rev → Members
rev_member None = no_members
rev_member (Some rev) = member (codes "rev") (rev_data rev) no_members

-- the members that an edit and a merge begin with
abbrev pub write_members : Id → Bool → Body → Members → Members
write_members id deleted body more =
    member (codes "body") (object body) (member (codes "deleted") (boolean deleted) (member (codes "id") (string id) more))

-- `{"body":{..},"deleted":b,"id":i,"rev":r}`
-- CouchDB: POST /{db}/_bulk_docs, "docs"
abbrev pub edit_data : Edit → Data
edit_data e = object (write_members e.id e.deleted e.body (rev_member e.named))

-- `{"body":{..},"deleted":b,"id":i,"path":[r,..]}`, newest first
-- CouchDB: POST /{db}/_bulk_docs, "new_edits"
abbrev pub merge_data : Merge → Data
merge_data m = object (write_members m.id m.deleted m.body (member (codes "path") (revs_data (m.newest ∷ m.older)) no_members))

-- `{"bulk":[..],"new_edits":b}`
-- CouchDB: POST /{db}/_bulk_docs, "new_edits"
abbrev pub bulk_data : List Data → Bool → Data
bulk_data writes new_edits =
    object (member (codes "bulk") (array (items_of writes)) (member (codes "new_edits") (boolean new_edits) no_members))

-- `body`, but for a deletion
abbrev pub body_first : Option Body → Members → Members
body_first None members = members
body_first (Some body) members = member (codes "body") (object body) members

-- `rev`, only where a counter is named
abbrev pub counter_member : Option ℕ → Members
counter_member None = no_members
counter_member (Some counter) = member (codes "rev") (number (unsigned counter)) no_members

-- `{"body":{..},"local":i,"rev":k}`
-- CouchDB: PUT /{db}/_local/{docid}, DELETE /{db}/_local/{docid}
abbrev pub put_local_data : Id → Option ℕ → Option Body → Data
put_local_data id named body = object (body_first body (member (codes "local") (string id) (counter_member named)))

-- one form for each kind
-- CouchDB: POST /{db}/_bulk_docs, PUT /{db}/_local/{docid}, POST /{db}/_purge, PUT /{db}/_revs_limit, PUT /{db}/_purged_infos_limit, POST /{db}/_compact
abbrev pub command_data : Command → Data
command_data (Edits edits) = bulk_data (map edit_data edits) true
command_data (Merges merges) = bulk_data (map merge_data merges) false
command_data (PutLocal id named body) = put_local_data id named body
command_data (Purge named) = object (member (codes "purge") (removed_data named) no_members)
command_data (SetLimit limit) = object (member (codes "limit") (number (unsigned limit)) no_members)
command_data (SetPurgedLimit limit) = object (member (codes "purged_limit") (number (unsigned limit)) no_members)
command_data Compact = object (member (codes "compact") (boolean true) no_members)

-- the command is neither a bulk nor a write of a local document
abbrev pub is_setting : Command → Bool
is_setting (Edits edits) = false
is_setting (Merges merges) = false
is_setting (PutLocal id named body) = false
is_setting (Purge named) = true
is_setting (SetLimit limit) = true
is_setting (SetPurgedLimit limit) = true
is_setting Compact = true
