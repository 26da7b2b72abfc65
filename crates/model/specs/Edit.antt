-- What an edit and a merge make of one document's tree, or why they are refused.
use Rattle.std.specs.Prelude.{Bool, true, false, not, ℕ, List, [], ◌∷◌, nat_lt, Option, Some, None, unwrap_or, Result, Ok, Err, if◌then◌else◌}
use Rattle.model.specs.Map.{empty}
use Rattle.model.specs.Body.{Body}
use Rattle.model.specs.Revision.{Rev, child, generation_after, last_generation}
use Rattle.model.specs.Tree.{Tree, Leaf, is_leaf, winner}
use Rattle.model.specs.TreeChange.{graft, stem}
use Rattle.model.specs.Command.{Edit, Merge, Refusal, Conflict, BadHistory, Missing, Deleted, GenerationLimit}

-- the revision that was made, and the tree with it
pub record Written : Type 0 where
  pub rev : Rev
  pub tree : Tree

-- ---- the parent of what an edit makes

-- no revision named: a deleted winner takes an edit that is no deletion
-- CouchDB: PUT /{db}/{docid}, "rev"
abbrev pub over_winner : Option Leaf → Bool → Result (Option Rev) Refusal
over_winner None deleted = Err Conflict
over_winner (Some w) deleted = if not w.deleted then Err Conflict else (if deleted then Err Deleted else Ok (Some w.rev))

-- of the tree, if there is one, and the revision named, for a deletion or not
-- CouchDB: PUT /{db}/{docid} and DELETE /{db}/{docid}, 409 Conflict
abbrev pub parent_for : Option Tree → Option Rev → Bool → Result (Option Rev) Refusal
parent_for None named true = Err Missing
parent_for None None false = Ok None
parent_for None (Some r) false = Err Conflict
parent_for (Some t) (Some r) deleted = if is_leaf t r then Ok (Some r) else Err Conflict
parent_for (Some t) None deleted = over_winner (winner t) deleted

-- ---- the tree that is left

-- CouchDB: PUT /{db}/_revs_limit
abbrev pub stemmed : ℕ → Option Tree → Result Tree Refusal
stemmed limit None = Err BadHistory
stemmed limit (Some t) = Ok (stem limit t)

-- with the path grafted, and then stemmed
-- CouchDB: PUT /{db}/_revs_limit
unfoldable pub with_path : ℕ → Option Tree → List Rev → Body → Bool → Result Tree Refusal
with_path limit t path body deleted = stemmed limit (graft path body deleted (unwrap_or t empty))

abbrev pub parent_path : Option Rev → List Rev
parent_path None = []
parent_path (Some p) = p ∷ []

abbrev pub written : Rev → Result Tree Refusal → Result Written Refusal
written r (Ok t) = Ok (record { rev = r; tree = t })
written r (Err e) = Err e

abbrev pub child_written : ℕ → Option Tree → Edit → Result (Option Rev) Refusal → Result Written Refusal
child_written limit t e (Err refusal) = Err refusal
child_written limit t e (Ok parent) =
    let r = child parent e.deleted e.body in
    if nat_lt last_generation (generation_after parent) then Err GenerationLimit
    else written r (with_path limit t (r ∷ parent_path parent) e.body e.deleted)

-- an edit makes a child of the parent found
-- CouchDB: PUT /{db}/{docid}, "rev"
unfoldable pub edited : ℕ → Option Tree → Edit → Result Written Refusal
edited limit t e = child_written limit t e (parent_for t e.named e.deleted)

-- a merge grafts the path that it brings, with no check for conflicts
-- CouchDB: POST /{db}/_bulk_docs, "new_edits"
unfoldable pub merged : ℕ → Option Tree → Merge → Result Written Refusal
merged limit t m = written m.newest (with_path limit t (m.newest ∷ m.older) m.body m.deleted)

abbrev pub revision_written : Result Written Refusal → Result Rev Refusal
revision_written (Ok w) = Ok w.rev
revision_written (Err e) = Err e
