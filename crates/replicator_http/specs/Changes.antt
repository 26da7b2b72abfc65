-- The changes, as an answer reports them.
use Rattle.std.specs.Prelude.{ℕ, Bool, false, List, Option, Some, None, Ok, codes}
use Rattle.serde_json.specs.Data.{Data}
use Rattle.serde_json.specs.Find.{as_bool, get}
use Rattle.model.specs.Query.{ChangesPage, Row}
use Rattle.model.specs.Revision.{Rev}
use Rattle.document_json.specs.Each.{each}
use Rattle.document_json.specs.Steps.{Checked, and_then, or_refused}
use Rattle.document_json.specs.Text.{json_of}
use Rattle.document_json.specs.declared.fault.Reason.TheVariants as reason
use Rattle.replicator_http.specs.Members.{id_under, list_under, number_under, rev_under}

-- a leaf by its name
-- CouchDB: GET /{db}/_changes, "results"
abbrev pub leaf_in : Data → Checked Rev
leaf_in value = rev_under (codes "rev") value

-- CouchDB: GET /{db}/_changes, "results"
abbrev pub leaves_in : Data → Checked (List Rev)
leaves_in value = and_then (list_under (codes "changes") value) (each leaf_in)

abbrev pub flag_or_false : Option Data → Checked Bool
flag_or_false None = Ok false
flag_or_false (Some value) = or_refused (as_bool value) reason.Shape

-- the winner is deleted where that is said
-- CouchDB: GET /{db}/_changes, "results"
abbrev pub deleted_in : Data → Checked Bool
deleted_in value = flag_or_false (get (codes "deleted") value)

-- a document at its last update
-- CouchDB: GET /{db}/_changes, "results"
abbrev pub row_in : Data → Checked Row
row_in value =
    and_then (number_under (codes "seq") value) (λ seq.
    and_then (id_under (codes "id") value) (λ id.
    and_then (deleted_in value) (λ deleted.
    and_then (leaves_in value) (λ changes.
    Ok (record { seq = seq; id = id; changes = changes; deleted = deleted })))))

-- the number to go on from, how many rows are left, and the rows
-- CouchDB: GET /{db}/_changes, "last_seq", "pending", "results"
abbrev pub page_in : Data → Checked ChangesPage
page_in value =
    and_then (number_under (codes "last_seq") value) (λ last_seq.
    and_then (number_under (codes "pending") value) (λ pending.
    and_then (list_under (codes "results") value) (λ values.
    and_then (each row_in values) (λ rows.
    Ok (record { last_seq = last_seq; pending = pending; rows = rows })))))

-- the changes that an answer reports
-- CouchDB: GET /{db}/_changes
abbrev pub page_of : List ℕ → Checked ChangesPage
page_of body = and_then (json_of body) page_in
