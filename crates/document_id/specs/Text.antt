-- The text of an id, wherever it lies.
use Rattle.std.specs.Prelude.{ℕ, List}
use Rattle.std.specs.Arc.{arc_str_bytes}
use Rattle.document_id.specs.declared.text.Text.{Text}
use Rattle.document_id.specs.declared.text.Text.TheVariants.{Short, Long}

abbrev pub bytes_of : Text → List ℕ
bytes_of (Short text) = text.bytes
bytes_of (Long text) = arc_str_bytes text
