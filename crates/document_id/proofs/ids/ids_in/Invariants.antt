-- So far the ids among the texts that were passed.
use Rattle.std.proofs.Common.{◌≡◌, filter, map, take}
use Rattle.model.specs.Command.{has_id_length}
use Rattle.document_id.proofs.ids.ids_in.Given as goal

abbrev pub invariant-loop-text : goal.invariant-loop-text
invariant-loop-text l = l.ids.items ≡ filter has_id_length (map (λ text. text.now) (take l.text-index l.texts))
