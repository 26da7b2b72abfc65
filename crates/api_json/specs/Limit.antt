-- The limit of revisions, as a body writes it.
use Rattle.std.specs.Prelude.{ℕ, List, Option, option_and_then}
use Rattle.serde_json.specs.Data.{Data}
use Rattle.serde_json.specs.Find.{as_number, as_u64}
use Rattle.model.specs.Command.{largest_limit}
use Rattle.document_json.specs.Steps.{Checked, and_then, or_refused}
use Rattle.document_json.specs.Numbers.{from_one}
use Rattle.document_json.specs.Text.{json_of}
use Rattle.document_json.specs.declared.fault.Reason.TheVariants as reason

abbrev pub limit_in : Data → Option ℕ
limit_in value = option_and_then (from_one largest_limit) (option_and_then as_u64 (as_number value))

-- the limit that a body writes
-- CouchDB: PUT /{db}/_revs_limit
abbrev pub limit_of : List ℕ → Checked ℕ
limit_of body = and_then (json_of body) (λ value. or_refused (limit_in value) reason.Shape)
