-- The revisions of documents, as a body names them; each check is made of all of them before the next.
use Rattle.std.specs.Prelude.{ℕ, List, [], ◌∷◌, Ok, string_bytes}
use Rattle.serde_json.specs.Data.{Data, Members, no_members, member}
use Rattle.serde_json.specs.Find.{as_object}
use Rattle.json_profile.specs.declared.object.Member.{Member}
use Rattle.model.specs.Command.{Id, names}
use Rattle.model.specs.Map.{Map, from_list}
use Rattle.model.specs.Revision.{Rev}
use Rattle.document_json.specs.Steps.{Checked, and_then, or_refused}
use Rattle.document_json.specs.Each.{each}
use Rattle.document_json.specs.Text.{json_of}
use Rattle.document_json.specs.Identity.{id_named}
use Rattle.api_json.specs.TextLists.{rev_in, texts_in}
use Rattle.document_json.specs.declared.fault.Reason.TheVariants as reason

-- a name, and what is under it
abbrev pub member_pair : Member → List ℕ × Data
member_pair m = (string_bytes m.name, m.value)

-- each name with what is under it
abbrev pub pairs_in : Members → List (List ℕ × Data)
pairs_in no_members = []
pairs_in (member name value members) = (name, value) ∷ pairs_in members

abbrev pub texts_listed : List ℕ × Data → Checked (List ℕ × List Data)
texts_listed pair = and_then (or_refused (texts_in pair.1) reason.Shape) (λ texts. Ok (pair.0, texts))

abbrev pub texts_named : List ℕ × List Data → Checked (Id × List Data)
texts_named pair = and_then (id_named pair.0) (λ id. Ok (id, pair.1))

abbrev pub revs_named : Id × List Data → Checked (Id × List Rev)
revs_named pair = and_then (each rev_in pair.1) (λ revs. Ok (pair.0, revs))

-- the texts under a name
abbrev pub member_texts : Member → Checked (List ℕ × List Data)
member_texts m = texts_listed (member_pair m)

-- the revisions that are listed of each document
-- CouchDB: POST /{db}/_revs_diff, POST /{db}/_purge
unfoldable pub asked_in : List (List ℕ × Data) → Checked (List (Id × List Rev))
asked_in pairs =
    and_then (each texts_listed pairs) (λ listed.
    and_then (each texts_named listed) (λ named.
    each revs_named named))

-- the revisions that the members of an object list
-- CouchDB: POST /{db}/_revs_diff, POST /{db}/_purge
abbrev pub named_in : Members → Checked (Map names (List Rev))
named_in members = and_then (asked_in (pairs_in members)) (λ asked. Ok (from_list asked))

-- the revisions of a body
-- CouchDB: POST /{db}/_revs_diff, POST /{db}/_purge
abbrev pub named_revisions_of : List ℕ → Checked (Map names (List Rev))
named_revisions_of body =
    and_then (json_of body) (λ value.
    and_then (or_refused (as_object value) reason.Shape) (λ members.
    named_in members))
