use Rattle.std.proofs.Common.{◌≡◌, map, take}
use Rattle.serde_json.specs.View.{view}
use Rattle.document_json.specs.Written.{rev_data}
use Rattle.document_json.proofs.revisions_value.revs_value.Given as goal

abbrev pub invariant-loop-rev : goal.invariant-loop-rev
invariant-loop-rev l = map view l.values.items ≡ map rev_data (take l.rev-index l.revs)
