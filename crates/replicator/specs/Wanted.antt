-- The revisions that are asked for.
use Rattle.std.specs.Prelude.{◌≡◌, ℕ, List, [], ◌∷◌, map, take, Contains, Result, Ok, Err}
use Rattle.std.specs.List.{Any, flat_map, take_while}
use Rattle.model.specs.Map.{same_key}
use Rattle.model.specs.Command.{Id, Merge, names}
use Rattle.model.specs.Query.{Difference}
use Rattle.model.specs.Revision.{Rev}
use Rattle.replicator.specs.Readable.{path_of}

-- the revisions that are missing, each with its document
abbrev pub wanted_in : List (Id × Difference) → List (Id × Rev)
wanted_in differences = flat_map (λ d. map (λ rev. (d.0, rev)) d.1.missing) differences

-- the most revisions that are asked for in one call
abbrev pub max_revs : ℕ
max_revs = 100

-- the first revisions of one document, as many as one call asks for
abbrev pub next_revs : Id → List (Id × Rev) → List Rev
next_revs id wanted = map (λ w. w.1) (take_while (λ w. same_key names w.0 id) (take max_revs wanted))

abbrev pub given_of : Result Merge Rev → List Merge
given_of (Ok document) = document ∷ []
given_of (Err missing) = []

abbrev pub absent_of : Id → Result Merge Rev → List (Id × Rev)
absent_of id (Ok document) = []
absent_of id (Err missing) = (id, missing) ∷ []

-- the documents that are given
abbrev pub given_in : List (Result Merge Rev) → List Merge
given_in opened = flat_map given_of opened

-- the revisions of a document that are called missing
abbrev pub absent_in : Id → List (Result Merge Rev) → List (Id × Rev)
absent_in id opened = flat_map (absent_of id) opened

-- a revision is in the path of one of the documents, which has this id
abbrev pub IsIn : List Merge → Id → Rev → Type 0
IsIn documents id rev = Any (λ document. (document.id ≡ id) × Contains (path_of document) rev) documents
