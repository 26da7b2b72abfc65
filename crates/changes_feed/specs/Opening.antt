-- The revisions of a document that are asked for, of which each is made when it is looked at.
use Rattle.std.specs.Prelude.{false, not, List, [], filter, map, Option, None, option_map, Result, Ok, Err, if◌then◌else◌}
use Rattle.model.specs.Command.{Id}
use Rattle.model.specs.Database.{Database, tree_at}
use Rattle.model.specs.Documents.{losers, opened_at, opened_in}
use Rattle.model.specs.Query.{Answer, Document, Opened, OpenRevs, Options, Query}
use Rattle.model.specs.Revision.{Rev}
use Rattle.model.specs.Tree.{Tree, revs_of}

-- the document, its revisions, what is asked beside its body, and the revisions that are shown
pub record Opening : Type 0 where
  pub id : Id
  pub tree : Tree
  pub options : Options
  pub revs : List Rev

-- each as a document, or by its name where its body is not there
-- CouchDB: GET /{db}/{docid}, "open_revs"
abbrev pub opened_by : Opening → List (Result Document Rev)
opened_by o = map (opened_at o.id o.tree o.options) o.revs

-- what is answered where revisions of a document are asked for that is known
-- CouchDB: GET /{db}/{docid}, "open_revs"
abbrev pub known_opened : Database → Query → Option Answer
known_opened d (OpenRevs id asked options) = option_map (λ t. Opened (opened_in id options asked t)) (tree_at d id)
known_opened d query = None

-- the same without lists of conflicts
abbrev pub unlisted : Options → Options
unlisted options = record options { conflicts = false; deleted_conflicts = false }

-- the conflicts that each document lists, where they are asked for
-- CouchDB: GET /{db}/{docid}, "_conflicts"
abbrev pub conflicts_of : Options → Tree → List Rev
conflicts_of options t = if options.conflicts then revs_of (filter (λ l. not l.deleted) (losers t)) else []

-- CouchDB: GET /{db}/{docid}, "_deleted_conflicts"
abbrev pub deleted_conflicts_of : Options → Tree → List Rev
deleted_conflicts_of options t = if options.deleted_conflicts then revs_of (filter (λ l. l.deleted) (losers t)) else []

-- a document with these lists
abbrev pub listing : List Rev → List Rev → Document → Document
listing conflicts deleted d = record d { conflicts = conflicts; deleted_conflicts = deleted }

abbrev pub listed_with : List Rev → List Rev → Result Document Rev → Result Document Rev
listed_with conflicts deleted (Ok d) = Ok (listing conflicts deleted d)
listed_with conflicts deleted (Err rev) = Err rev
