-- Revisions of a document that are asked for, of which each is made when it is looked at.
use Rattle.std.specs.Prelude.{List, map, Option, None, option_map, Result, Ok, Err}
use Rattle.model.specs.Database.{Database, tree_at}
use Rattle.model.specs.Documents.{opened_in}
use Rattle.model.specs.Query.{Answer, Document, Opened, OpenRevs, Query}
use Rattle.model.specs.Revision.{Rev}

-- each as a document, or by its name where its body is not there
-- CouchDB: GET /{db}/{docid}, "open_revs"
abbrev pub opened_by : (Rev → Result Document Rev) → List Rev → List (Result Document Rev)
opened_by document revs = map document revs

-- what is answered where revisions of a document are asked for that is known
-- CouchDB: GET /{db}/{docid}, "open_revs"
abbrev pub known_opened : Database → Query → Option Answer
known_opened d (OpenRevs id asked options) = option_map (λ t. Opened (opened_in id options asked t)) (tree_at d id)
known_opened d query = None

-- a document with these lists of conflicts
-- CouchDB: GET /{db}/{docid}, "_conflicts", "_deleted_conflicts"
abbrev pub listing : List Rev → List Rev → Document → Document
listing conflicts deleted d = record d { conflicts = conflicts; deleted_conflicts = deleted }

abbrev pub listed_with : List Rev → List Rev → Result Document Rev → Result Document Rev
listed_with conflicts deleted (Ok d) = Ok (listing conflicts deleted d)
listed_with conflicts deleted (Err rev) = Err rev
