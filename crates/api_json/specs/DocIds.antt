-- The documents that a body lists.
use Rattle.std.specs.Prelude.{ℕ, List, Option, Ok, codes, option_and_then}
use Rattle.std.specs.List.{filter_map}
use Rattle.serde_json.specs.Data.{Data}
use Rattle.serde_json.specs.Find.{as_str, get}
use Rattle.model.specs.Changes.{ids_named}
use Rattle.model.specs.Command.{Id}
use Rattle.document_json.specs.Steps.{Checked, and_then, or_refused}
use Rattle.document_json.specs.Text.{json_of}
use Rattle.api_json.specs.TextLists.{texts_in}
use Rattle.document_json.specs.declared.fault.Reason.TheVariants as reason

-- the texts that an object lists as `doc_ids`; its other members say nothing
-- CouchDB: POST /{db}/_changes, "doc_ids"
abbrev pub texts_listed : Data → Option (List Data)
texts_listed value = option_and_then texts_in (get (codes "doc_ids") value)

-- the documents that texts name
abbrev pub ids_in : List Data → List Id
ids_in values = ids_named (filter_map as_str values)

-- the documents that a body lists
-- CouchDB: POST /{db}/_changes, "doc_ids"
abbrev pub doc_ids_of : List ℕ → Checked (List Id)
doc_ids_of body =
    and_then (json_of body) (λ value.
    and_then (or_refused (texts_listed value) reason.Shape) (λ values.
    Ok (ids_in values)))
