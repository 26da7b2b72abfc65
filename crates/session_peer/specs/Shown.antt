-- Documents as they go to another replica.
use Rattle.std.specs.Prelude.{true, false, List, [], map, All, unwrap_or, Result, Ok, Err, ⊤}
use Rattle.model.specs.Command.{Merge}
use Rattle.model.specs.Query.{Options, Document}
use Rattle.model.specs.Revision.{Rev}
use Rattle.model.specs.TreeChange.{IsPath}
use Rattle.commands.specs.Merge.{merge_of}

-- the newest in the place of a revision, with its path
-- CouchDB: GET /{db}/{docid}, "latest", "revs"
abbrev pub with_paths : Options
with_paths = record { latest = true; revs = true; revs_info = false; conflicts = false; deleted_conflicts = false }

-- the path that a document shows
-- CouchDB: GET /{db}/{docid}, "_revisions"
abbrev pub path_shown : Document → List Rev
path_shown document = unwrap_or document.revisions []

-- what a document that shows its path brings to a replica
-- CouchDB: POST /{db}/_bulk_docs, "new_edits"
abbrev pub merge_shown : Document → Merge
merge_shown document = merge_of document.id (path_shown document) document.deleted document.body

-- of each revision that, or its name where it is missing
abbrev pub brought : Result Document Rev → Result Merge Rev
brought (Ok document) = Ok (merge_shown document)
brought (Err missing) = Err missing

abbrev pub all_brought : List (Result Document Rev) → List (Result Merge Rev)
all_brought opened = map brought opened

-- a document shows a path
abbrev pub ShowsPath : Result Document Rev → Type 0
ShowsPath (Ok document) = IsPath (path_shown document)
ShowsPath (Err missing) = ⊤

abbrev pub ShowPaths : List (Result Document Rev) → Type 0
ShowPaths opened = All ShowsPath opened
