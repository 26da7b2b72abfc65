-- A purge, as a body and an answer write it.
use Rattle.std.specs.Prelude.{ℕ, List, Option, Some, None, length, map, nat_le, codes, if◌then◌else◌}
use Rattle.serde_json.specs.Data.{Data, number, unsigned, object, no_members, member}
use Rattle.model.specs.Command.{Command, Id, Purge, max_edits, names}
use Rattle.model.specs.Map.{Map, entries}
use Rattle.model.specs.Revision.{Rev}
use Rattle.document_json.specs.Steps.{Checked, and_then, or_refused}
use Rattle.document_json.specs.Written.{revs_data}
use Rattle.document_json.specs.declared.fault.Reason.TheVariants as reason
use Rattle.api_json.specs.NamedRevisions.{named_revisions_of}
use Rattle.api_json.specs.Objects.{Named, members_from}

-- ---- what is asked

-- a command names no more documents
abbrev pub purge_in : Map names (List Rev) → Option Command
purge_in named = if nat_le (length (entries named)) max_edits then Some (Purge named) else None

-- the command that removes the revisions of a body
-- CouchDB: POST /{db}/_purge
abbrev pub purge_of : List ℕ → Checked Command
purge_of body = and_then (named_revisions_of body) (λ named. or_refused (purge_in named) reason.Shape)

-- ---- what is answered

-- a document and the leaves that were removed, as a member
abbrev pub named_leaves : Id × List Rev → Named
named_leaves e = (e.0, revs_data e.1)

-- the documents that were asked for, in the byte order of their ids, each with the leaves removed
-- CouchDB: POST /{db}/_purge, "purged"
abbrev pub removed_data : Map names (List Rev) → Data
removed_data removed = object (members_from (map named_leaves (entries removed)))

-- `{"purge_seq":n,"purged":{..}}`
-- CouchDB: POST /{db}/_purge, "purge_seq", "purged"
abbrev pub purged_data : ℕ → Map names (List Rev) → Data
purged_data purge_seq removed =
    object (member (codes "purge_seq") (number (unsigned purge_seq)) (member (codes "purged") (removed_data removed) no_members))
