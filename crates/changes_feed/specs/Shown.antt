-- Parts of a document as it is shown.
use Rattle.std.specs.Prelude.{◌||◌, Bool, ℕ, List, [], drop, filter, map, if◌then◌else◌}
use Rattle.std.specs.Bool.{beq}
use Rattle.model.specs.Body.{Body}
use Rattle.model.specs.Revision.{Rev}
use Rattle.model.specs.Tree.{Tree, is_deleted, leaves, path_of, revs_of}
use Rattle.model.specs.Query.{Options}
use Rattle.model.specs.declared.status.Status.{Status}
use Rattle.model.specs.Local.{Local}
use Rattle.model.specs.Documents.{status_of}

-- the known path of a revision, where a part of the document lists it
-- CouchDB: GET /{db}/{docid}, "revs", "revs_info"
abbrev pub listed_path : Options → Tree → Rev → List Rev
listed_path options t r = if options.revs || options.revs_info then path_of t r else []

-- revisions, each with what is kept of it
-- CouchDB: GET /{db}/{docid}, "revs_info"
abbrev pub statuses_of : Tree → List Rev → List (Rev × Status)
statuses_of t path = map (λ a. (a, status_of t a)) path

-- all leaves, where a part of the document lists some of them
-- CouchDB: GET /{db}/{docid}, "conflicts", "deleted_conflicts"
abbrev pub listed_leaves : Options → Tree → List Rev
listed_leaves options t = if options.conflicts || options.deleted_conflicts then revs_of (leaves t) else []

-- those behind the first that are deletions, or those that are not
-- CouchDB: GET /{db}/{docid}, "conflicts", "deleted_conflicts"
abbrev pub others_with : Bool → Tree → List Rev → List Rev
others_with deleted t rs = filter (λ r. beq (is_deleted t r) deleted) (drop 1 rs)

-- what is shown of a local document
-- CouchDB: GET /{db}/_local/{docid}
abbrev pub local_shown : Local → ℕ × Body
local_shown l = (l.counter, l.body)
