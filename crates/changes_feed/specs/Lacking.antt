-- What a document lacks.
use Rattle.std.specs.Prelude.{ℕ, List, [], ◌∷◌, filter, nat_lt, Option, Some, None, unwrap_or}
use Rattle.model.specs.Map.{empty}
use Rattle.model.specs.Revision.{Rev}
use Rattle.model.specs.Tree.{Tree, leaves, revs_of}
use Rattle.model.specs.Command.{Id}
use Rattle.model.specs.Query.{Difference}
use Rattle.model.specs.Documents.{in_order}

-- a document that is not known has no revisions
abbrev pub known_tree : Option Tree → Tree
known_tree tree = unwrap_or tree empty

-- the leaves of a lower generation, in rising order
-- CouchDB: POST /{db}/_revs_diff, "possible_ancestors"
abbrev pub ancestors_of : ℕ → Tree → List Rev
ancestors_of generation t = in_order (filter (λ l. nat_lt l.generation generation) (revs_of (leaves t)))

-- a document, if it lacks something
abbrev pub one_lacking : Id → Option Difference → List (Id × Difference)
one_lacking id None = []
one_lacking id (Some difference) = (id, difference) ∷ []
