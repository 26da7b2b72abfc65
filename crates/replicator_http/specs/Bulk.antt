-- What became of a bulk of revisions from elsewhere.
use Rattle.std.specs.Prelude.{ℕ, Bool, true, false, List, Ok}
use Rattle.std.specs.Option.{option_map_or}
use Rattle.serde_json.specs.Data.{Data, Items, no_items, item}
use Rattle.serde_json.specs.Find.{as_array}
use Rattle.document_json.specs.Steps.{Checked, and_then}
use Rattle.document_json.specs.Text.{json_of}

abbrev pub is_empty : Items → Bool
is_empty no_items = true
is_empty (item refused more) = false

-- the answer is the list of no refusal
-- CouchDB: POST /{db}/_bulk_docs, "new_edits"
abbrev pub all_taken_in : Data → Bool
all_taken_in value = option_map_or is_empty (as_array value) false

-- CouchDB: POST /{db}/_bulk_docs, "new_edits"
abbrev pub all_taken_of : List ℕ → Checked Bool
all_taken_of body = and_then (json_of body) (λ value. Ok (all_taken_in value))
