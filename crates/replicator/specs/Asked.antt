-- What is asked of the changes.
use Rattle.std.specs.Prelude.{List, [], ◌++◌, unwrap_or}
use Rattle.std.specs.List.{fold}
use Rattle.model.specs.Map.{Map, empty, get, put}
use Rattle.model.specs.Command.{Id, names}
use Rattle.model.specs.Query.{Row}
use Rattle.model.specs.Revision.{Rev}

abbrev pub Asked : Type 0
Asked = Map names (List Rev)

-- the revisions of a document that are asked about
abbrev pub revs_asked : Map names (List Rev) → Id → List Rev
revs_asked asked id = unwrap_or (get {O = names} asked id) []

-- with the revisions of one more row
abbrev pub with_row : Map names (List Rev) → Row → Map names (List Rev)
with_row asked row = put {O = names} asked row.id (revs_asked asked row.id ++ row.changes)

-- the revisions of all rows, by their documents
-- CouchDB: "CouchDB Replication Protocol", "Calculate Revision Difference"
abbrev pub asked_in : List Row → Map names (List Rev)
asked_in rows = fold with_row (empty {O = names}) rows
