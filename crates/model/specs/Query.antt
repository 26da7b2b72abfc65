-- What a session can ask of a database as it stands, and the answers.
use Rattle.std.specs.Prelude.{ℕ, Bool, List, Option, Result}
pub use Rattle.model.specs.declared.absent.Absent.{Absent}
pub use Rattle.model.specs.declared.absent.Absent.TheVariants.{IsMissing, WasDeleted}
pub use Rattle.model.specs.declared.status.Status.{Status}
pub use Rattle.model.specs.declared.status.Status.TheVariants.{Available, IsDeleted, NoBody}
pub use Rattle.model.specs.declared.style.Style.{Style}
pub use Rattle.model.specs.declared.style.Style.TheVariants.{MainOnly, AllDocs}
use Rattle.model.specs.Map.{Map}
use Rattle.model.specs.Body.{Body}
use Rattle.model.specs.Revision.{Rev}
use Rattle.model.specs.Command.{Id, names}

-- what beside its body is asked of a document; `latest` asks for the first of the leaves that descend from a
-- revision, in the winner's order, in its place
-- CouchDB: GET /{db}/{docid}, "latest", "revs", "revs_info", "conflicts", "deleted_conflicts"
pub record Options : Type 0 where
  pub latest : Bool
  pub revs : Bool
  pub revs_info : Bool
  pub conflicts : Bool
  pub deleted_conflicts : Bool

-- CouchDB: GET /{db}/{docid}, POST /{db}/_revs_diff, GET /{db}/_changes, GET /{db}/_all_docs, GET /{db}, GET /{db}/_local/{docid}, GET /{db}/_revs_limit, GET /{db}/_purged_infos_limit
pub data Query : Type 0 where
  -- the winner, or the revision named
  Get : Id → Option Rev → Options → Query
  -- all leaves, or the revisions listed
  OpenRevs : Id → Option (List Rev) → Options → Query
  -- revisions of each document
  RevsDiff : Map names (List Rev) → Query
  -- the number since when, at most how many rows if there is a limit, the style, and the documents, where it is not of all
  Changes : ℕ → Option ℕ → Style → Option (List Id) → Query
  AllDocuments : Query
  Info : Query
  GetLocal : Id → Query
  RevsLimit : Query
  PurgedInfosLimit : Query

-- a revision with its body; what was not asked for is None, and of conflicts the empty list
-- CouchDB: GET /{db}/{docid}, "_revisions", "_revs_info", "_conflicts", "_deleted_conflicts"
pub record Document : Type 0 where
  pub id : Id
  pub rev : Rev
  pub deleted : Bool
  pub body : Body
  pub revisions : Option (List Rev)
  pub revs_info : Option (List (Rev × Status))
  pub conflicts : List Rev
  pub deleted_conflicts : List Rev

-- of the revisions asked for those that are not known, and the leaves that may be their ancestors
-- CouchDB: POST /{db}/_revs_diff, "missing", "possible_ancestors"
pub record Difference : Type 0 where
  pub missing : List Rev
  pub possible_ancestors : List Rev

-- a document at its last update
-- CouchDB: GET /{db}/_changes, "results"
pub record Row : Type 0 where
  pub seq : ℕ
  pub id : Id
  pub changes : List Rev
  pub deleted : Bool

-- the number to go on from, how many rows are left, and the rows
-- CouchDB: GET /{db}/_changes, "last_seq", "pending", "results"
pub record ChangesPage : Type 0 where
  pub last_seq : ℕ
  pub pending : ℕ
  pub rows : List Row

-- CouchDB: GET /{db}, "doc_count", "doc_del_count", "purge_seq", "update_seq"
pub record Counts : Type 0 where
  pub doc_count : ℕ
  pub doc_del_count : ℕ
  pub update_seq : ℕ
  pub purge_seq : ℕ

pub data Answer : Type 0 where
  Found : Result Document Absent → Answer
  -- each revision as a document, or its name where it is missing
  Opened : List (Result Document Rev) → Answer
  Differences : Map names Difference → Answer
  Changed : ChangesPage → Answer
  Documents : List (Id × Rev) → Answer
  Counted : Counts → Answer
  FoundLocal : Option (ℕ × Body) → Answer
  Limit : ℕ → Answer
