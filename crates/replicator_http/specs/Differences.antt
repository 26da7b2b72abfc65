-- The revisions that are lacking, as an answer reports them.
use Rattle.std.specs.Prelude.{ℕ, List, [], Option, Some, None, Ok, codes}
use Rattle.serde_json.specs.Data.{Data, Members}
use Rattle.serde_json.specs.Find.{as_object, get_member}
use Rattle.json_profile.specs.declared.object.Member.{Member}
use Rattle.model.specs.Command.{Id, names}
use Rattle.model.specs.Map.{Map, from_list}
use Rattle.model.specs.Query.{Difference}
use Rattle.model.specs.Revision.{Rev}
use Rattle.document_json.specs.Each.{each}
use Rattle.document_json.specs.Identity.{id_named}
use Rattle.document_json.specs.Steps.{Checked, and_then, or_refused, refused}
use Rattle.document_json.specs.Text.{json_of}
use Rattle.document_json.specs.declared.fault.Reason.TheVariants as reason
use Rattle.api_json.specs.NamedRevisions.{member_pair, pairs_in}
use Rattle.replicator_http.specs.Members.{revs_in}

-- the revisions of a list that has to be there
-- CouchDB: POST /{db}/_revs_diff, "missing"
abbrev pub missing_in : Option Data → Checked (List Rev)
missing_in None = refused reason.Shape
missing_in (Some value) = revs_in value

-- those of a list that may be there
-- CouchDB: POST /{db}/_revs_diff, "possible_ancestors"
abbrev pub ancestors_in : Option Data → Checked (List Rev)
ancestors_in None = Ok []
ancestors_in (Some value) = revs_in value

-- CouchDB: POST /{db}/_revs_diff, "missing", "possible_ancestors"
abbrev pub lacking_in : Members → Checked Difference
lacking_in members =
    and_then (missing_in (get_member (codes "missing") members)) (λ missing.
    and_then (ancestors_in (get_member (codes "possible_ancestors") members)) (λ ancestors.
    Ok (record { missing = missing; possible_ancestors = ancestors })))

-- what a document lacks
-- CouchDB: POST /{db}/_revs_diff
abbrev pub difference_in : Data → Checked Difference
difference_in value = and_then (or_refused (as_object value) reason.Shape) lacking_in

-- a document by its id, and what it lacks
-- CouchDB: POST /{db}/_revs_diff
abbrev pub named_difference : List ℕ × Data → Checked (Id × Difference)
named_difference pair =
    and_then (id_named pair.0) (λ id.
    and_then (difference_in pair.1) (λ difference.
    Ok (id, difference)))

abbrev pub member_difference : Member → Checked (Id × Difference)
member_difference m = named_difference (member_pair m)

-- the documents that the members of an object name
-- CouchDB: POST /{db}/_revs_diff
abbrev pub differences_in : Members → Checked (Map names Difference)
differences_in members = and_then (each named_difference (pairs_in members)) (λ documents. Ok (from_list documents))

-- the documents that an answer names
-- CouchDB: POST /{db}/_revs_diff
abbrev pub differences_of : List ℕ → Checked (Map names Difference)
differences_of body =
    and_then (json_of body) (λ value.
    and_then (or_refused (as_object value) reason.Shape) (λ members.
    differences_in members))
