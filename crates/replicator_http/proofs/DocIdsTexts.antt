-- The text of a list of documents, in parts.
use Rattle.std.proofs.Common.{◌≡◌, List, ◌++◌, append_assoc, map}
use Rattle.std.specs.Prelude.{codes}
use Rattle.serde_json.specs.Data.{array, string}
use Rattle.serde_json.specs.View.{items_of}
use Rattle.serde_json.specs.Written.{compact_text}
use Rattle.serde_json.proofs.OnLiterals.{serde_json_on_literals}
use Rattle.model.specs.Command.{Id}
use Rattle.replicator_http.specs.Requests.{doc_ids_data}

pub doc_ids_data-parts : (ids : List Id)
    → (codes "{\"doc_ids\":" ++ compact_text (array (items_of (map string ids)))) ++ codes "}" ≡ compact_text (doc_ids_data ids)
unfolding serde_json_on_literals
doc_ids_data-parts ids = append_assoc (codes "{\"doc_ids\":") (compact_text (array (items_of (map string ids)))) (codes "}")
