-- The text of a bulk, in parts.
use Rattle.std.proofs.Common.{◌≡◌, List, ◌++◌, append_assoc, map}
use Rattle.std.specs.Prelude.{codes}
use Rattle.serde_json.specs.Data.{array}
use Rattle.serde_json.specs.View.{items_of}
use Rattle.serde_json.specs.Written.{compact_text}
use Rattle.serde_json.proofs.OnLiterals.{serde_json_on_literals}
use Rattle.model.specs.Command.{Merge}
use Rattle.document_json.specs.Written.{merge_data}
use Rattle.replicator_http.specs.Requests.{bulk_data}

pub bulk_data-parts : (documents : List Merge)
    → (codes "{\"docs\":" ++ compact_text (array (items_of (map merge_data documents)))) ++ codes ",\"new_edits\":false}" ≡ compact_text (bulk_data documents)
unfolding serde_json_on_literals
bulk_data-parts documents =
    append_assoc (codes "{\"docs\":") (compact_text (array (items_of (map merge_data documents)))) (codes ",\"new_edits\":false}")
