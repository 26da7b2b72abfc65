-- The ids of documents, as requests name them.
use Rattle.std.specs.Prelude.{ℕ, ◌==◌, ◌||◌, List, length, nat_lt, Ok, if◌then◌else◌}
use Rattle.model.specs.Command.{Id}
use Rattle.model.specs.Profile.{is_special}
use Rattle.document_json.specs.Steps.{Checked, refused}
use Rattle.document_json.specs.declared.fault.Reason.TheVariants as reason

-- an id has 1 to 512 bytes, and does not begin with `_`
-- CouchDB: "CouchDB Replication Protocol", "Definitions"
abbrev pub id_named : List ℕ → Checked Id
id_named text = if (length text == 0) || nat_lt 512 (length text) || is_special text then refused reason.Id else Ok text
