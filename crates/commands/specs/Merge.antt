-- A merge of a path of revisions, newest first.
use Rattle.std.specs.Prelude.{List, [], ◌∷◌, Bool}
use Rattle.model.specs.Body.{Body}
use Rattle.model.specs.Revision.{Rev}
use Rattle.model.specs.Command.{Id, Merge}

-- the newest of a path, which has one
abbrev pub newest_of : List Rev → Rev
newest_of [] = record { generation = 0; hash = [] }
newest_of (newest ∷ older) = newest

abbrev pub older_of : List Rev → List Rev
older_of [] = []
older_of (newest ∷ older) = older

abbrev pub merge_of : Id → List Rev → Bool → Body → Merge
merge_of id path deleted body = record { id = id; newest = newest_of path; older = older_of path; deleted = deleted; body = body }
