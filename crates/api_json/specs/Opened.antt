-- The revisions that were asked for, as an answer writes them.
use Rattle.std.specs.Prelude.{List, map, Result, Ok, Err, codes}
use Rattle.serde_json.specs.Data.{Data, array, object, no_members, member}
use Rattle.serde_json.specs.View.{items_of}
use Rattle.model.specs.Query.{Document}
use Rattle.model.specs.Revision.{Rev}
use Rattle.document_json.specs.Written.{document_data, rev_data}

-- `{"ok":document}`
abbrev pub found_data : Document → Data
found_data d = object (member (codes "ok") (document_data d) no_members)

-- `{"missing":r}`
abbrev pub missing_data : Rev → Data
missing_data rev = object (member (codes "missing") (rev_data rev) no_members)

-- a revision as a document, or its name where it is missing
-- CouchDB: GET /{db}/{docid}, "open_revs"
abbrev pub opened_data : Result Document Rev → Data
opened_data (Ok document) = found_data document
opened_data (Err rev) = missing_data rev

-- CouchDB: GET /{db}/{docid}, "open_revs"
abbrev pub all_opened_data : List (Result Document Rev) → Data
all_opened_data opened = array (items_of (map opened_data opened))
