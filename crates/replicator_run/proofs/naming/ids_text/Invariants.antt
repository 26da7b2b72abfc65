-- So far the ids that were given.
use Rattle.std.proofs.Common.{◌≡◌, ◌++◌, map, string_bytes}
use Rattle.std.specs.Prelude.{codes}
use Rattle.std.specs.List.{flat_map}
use Rattle.std.specs.Map.Iter.{deref}
use Rattle.replicator_run.specs.CheckpointId.{measured}
use Rattle.replicator_run.proofs.naming.ids_text.Given as goal

abbrev pub invariant-loop-id : goal.invariant-loop-id
invariant-loop-id l = string_bytes l.text ≡ codes "ids:" ++ flat_map measured (map deref l.yielded)
