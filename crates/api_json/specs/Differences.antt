-- The revisions that are not known, as an answer writes them.
use Rattle.std.specs.Prelude.{List, [], ◌∷◌, map, codes}
use Rattle.serde_json.specs.Data.{Data, object, Members, no_members, member}
use Rattle.model.specs.Command.{Id, names}
use Rattle.model.specs.Map.{Map, entries}
use Rattle.model.specs.Query.{Difference}
use Rattle.model.specs.Revision.{Rev}
use Rattle.document_json.specs.Written.{revs_data}
use Rattle.api_json.specs.Objects.{Named, members_from}

-- the leaves that may be ancestors, unless there are none
-- CouchDB: POST /{db}/_revs_diff, "possible_ancestors"
abbrev pub ancestors_last : List Rev → Members
ancestors_last [] = no_members
ancestors_last (rev ∷ revs) = member (codes "possible_ancestors") (revs_data (rev ∷ revs)) no_members

-- `{"missing":[..],"possible_ancestors":[..]}`, the second only where there are some
-- CouchDB: POST /{db}/_revs_diff, "missing", "possible_ancestors"
abbrev pub difference_data : Difference → Data
difference_data d = object (member (codes "missing") (revs_data d.missing) (ancestors_last d.possible_ancestors))

-- a document and what it lacks, as a member
abbrev pub named_difference : Id × Difference → Named
named_difference d = (d.0, difference_data d.1)

-- the documents that lack revisions, in the byte order of their ids
-- CouchDB: POST /{db}/_revs_diff
abbrev pub differences_data : Map names Difference → Data
differences_data differences = object (members_from (map named_difference (entries differences)))
