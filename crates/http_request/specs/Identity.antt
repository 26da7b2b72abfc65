-- The ids that paths name.
use Rattle.std.specs.Prelude.{ℕ, List}
use Rattle.http_routing.specs.Target.{last_segment, segment_text}
use Rattle.model.specs.Command.{Id}
use Rattle.document_json.specs.Identity.{id_named}
use Rattle.document_json.specs.Steps.{Checked, and_then, or_refused}
use Rattle.document_json.specs.declared.fault.Reason.TheVariants as reason

-- the id that a path ends in
abbrev pub path_id : List ℕ → Checked Id
path_id path = and_then (or_refused (segment_text (last_segment path)) reason.Id) id_named
