use Rattle.std.proofs.Common.{◌≡◌, map, take}
use Rattle.std.specs.List.{filter_map}
use Rattle.serde_json.specs.Find.{as_str}
use Rattle.api_json.proofs.doc_ids.texts_of.Given as goal

-- the texts so far
abbrev pub invariant-loop-value : goal.invariant-loop-value
invariant-loop-value l = map (λ t. t.now) l.texts.items ≡ filter_map as_str (take l.value-index l.values)
