use Rattle.std.proofs.Common.{◌≡◌, map, take}
use Rattle.serde_json.specs.View.{view}
use Rattle.document_json.specs.Written.{info_data}
use Rattle.document_json.proofs.revisions_value.infos_value.Given as goal

abbrev pub invariant-loop-info : goal.invariant-loop-info
invariant-loop-info l = map view l.values.items ≡ map info_data (take l.info-index l.infos)
