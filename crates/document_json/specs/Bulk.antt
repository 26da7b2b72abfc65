-- The documents of a bulk, as the body of a request lists them; each check is made of all of them before the next.
use Rattle.std.specs.Prelude.{ℕ, ◌||◌, Bool, true, false, List, [], ◌∷◌, Option, Some, None, Ok, codes, is_some, length, nat_le, not, option_map, option_and_then, if◌then◌else◌}
use Rattle.std.specs.List.{list_any}
use Rattle.serde_json.specs.Data.{Data}
use Rattle.serde_json.specs.Find.{as_array, as_bool, get}
use Rattle.model.specs.Command.{Command, Edit, Edits, Merge, Merges, max_edits}
use Rattle.model.specs.Revision.{Rev, same_rev}
use Rattle.commands.specs.Merge.{merge_of, newest_of}
use Rattle.document_json.specs.Steps.{Checked, and_then, or_refused, check, refused}
use Rattle.document_json.specs.Each.{each}
use Rattle.document_json.specs.Text.{json_of}
use Rattle.document_json.specs.Identity.{id_named}
use Rattle.document_json.specs.Lists.{values_of}
use Rattle.document_json.specs.Revisions.{rev_of}
use Rattle.document_json.specs.Document.{document_in, flag_in, parts_in, text_of}
use Rattle.document_json.specs.Path.{path_in}
use Rattle.document_json.specs.declared.document.Parts.{Parts}
use Rattle.document_json.specs.declared.bulk.Listed.{Listed}
use Rattle.document_json.specs.declared.bulk.Named.{Named}
use Rattle.document_json.specs.declared.fault.Reason.TheVariants as reason

-- a command has no more documents
abbrev pub few : List Data → Option (List Data)
few values = if nat_le (length values) max_edits then Some values else None

-- the documents that are listed
-- CouchDB: POST /{db}/_bulk_docs, "docs"
abbrev pub listed_in : Data → Option (List Data)
listed_in value = option_and_then few (option_map values_of (option_and_then as_array (get (codes "docs") value)))

abbrev pub flag_or_true : Option Data → Option Bool
flag_or_true None = Some true
flag_or_true (Some value) = as_bool value

-- they are new edits where it is not said
-- CouchDB: POST /{db}/_bulk_docs, "new_edits"
abbrev pub new_edits_in : Data → Option Bool
new_edits_in value = flag_or_true (get (codes "new_edits") value)

-- ---- the shape of a document

-- the path in `_revisions`, if that is there
abbrev pub path_found : Option Data → Checked (Option (List Rev))
path_found None = Ok None
path_found (Some value) = and_then (or_refused (path_in value) reason.Shape) (λ path. Ok (Some path))

-- a document with its path
abbrev pub with_path : Parts → Checked Listed
with_path parts = and_then (path_found parts.revisions) (λ path. Ok (record { parts = parts; path = path }))

-- a document from elsewhere names its revision, by `_rev` or by a path
-- CouchDB: POST /{db}/_bulk_docs, "new_edits"
abbrev pub merged_in : Parts → Checked Listed
merged_in parts = and_then (check (is_some parts.rev || is_some parts.revisions) reason.Shape) (λ _. with_path parts)

-- `_revisions` says nothing of a new edit
abbrev pub listed_as : Bool → Parts → Checked Listed
listed_as true parts = Ok (record { parts = parts; path = None })
listed_as false parts = merged_in parts

-- a document has an id
abbrev pub document_listed : Bool → Option Parts → Checked Listed
document_listed new_edits found =
    and_then (document_in found) (λ parts.
    and_then (check (is_some parts.id) reason.Shape) (λ _.
    listed_as new_edits parts))

-- ---- its id

abbrev pub document_named : Listed → Checked Named
document_named document =
    and_then (or_refused (text_of document.parts.id) reason.Id) (λ text.
    and_then (id_named text) (λ id.
    Ok (record { id = id; parts = document.parts; path = document.path })))

-- ---- its revisions

abbrev pub edit_in : Named → Checked Edit
edit_in document =
    and_then (rev_of (text_of document.parts.rev)) (λ rev.
    Ok (record { id = document.id; named = rev; deleted = flag_in document.parts.deleted; body = document.parts.body }))

-- the path that is listed, whose newest is the revision where that is named, or the revision alone
abbrev pub path_named : Option (List Rev) → Option Rev → Checked (List Rev)
path_named None None = refused reason.Shape
path_named None (Some rev) = Ok (rev ∷ [])
path_named (Some path) None = Ok path
path_named (Some path) (Some rev) = and_then (check (same_rev (newest_of path) rev) reason.Revision) (λ _. Ok path)

-- the revisions of a document, whose own is in `_rev`
abbrev pub revisions_of : Option Data → Option (List Rev) → Checked (List Rev)
revisions_of rev path = and_then (rev_of (text_of rev)) (λ rev. path_named path rev)

abbrev pub merge_in : Named → Checked Merge
merge_in document =
    and_then (revisions_of document.parts.rev document.path) (λ path.
    Ok (merge_of document.id path (flag_in document.parts.deleted) document.parts.body))

-- ---- one document from elsewhere

-- a document with its id, and with no special member that is unknown
abbrev pub known_named : Listed → Checked Named
known_named document = and_then (check (not document.parts.has_other) reason.Member) (λ _. document_named document)

-- the revision that a value reports, with its path
-- CouchDB: GET /{db}/{docid}, "open_revs", "revs"
abbrev pub merge_told : Data → Checked Merge
merge_told value =
    and_then (parts_in value) (λ found.
    and_then (document_listed false found) (λ listed.
    and_then (known_named listed) (λ document.
    merge_in document)))

-- ---- the whole

-- some document has a special member that is unknown
abbrev pub any_other : List Listed → Bool
any_other = list_any (λ document. document.parts.has_other)

-- the documents, with their members and their ids
abbrev pub named_in : List Listed → Checked (List Named)
named_in documents = and_then (check (not (any_other documents)) reason.Member) (λ _. each document_named documents)

-- the documents, with their shape, their members and their ids
abbrev pub documents_in : Bool → List (Option Parts) → Checked (List Named)
documents_in new_edits found = and_then (each (document_listed new_edits) found) (λ documents. named_in documents)

-- the command that writes them
-- CouchDB: POST /{db}/_bulk_docs, "new_edits"
abbrev pub command_in : Bool → List Named → Checked Command
command_in true documents = and_then (each edit_in documents) (λ edits. Ok (Edits edits))
command_in false documents = and_then (each merge_in documents) (λ merges. Ok (Merges merges))

-- the command of a bulk
-- CouchDB: POST /{db}/_bulk_docs
abbrev pub bulk_of : List ℕ → Checked Command
bulk_of body =
    and_then (json_of body) (λ value.
    and_then (or_refused (listed_in value) reason.Shape) (λ values.
    and_then (each parts_in values) (λ found.
    and_then (or_refused (new_edits_in value) reason.Shape) (λ new_edits.
    and_then (documents_in new_edits found) (λ documents.
    command_in new_edits documents)))))
