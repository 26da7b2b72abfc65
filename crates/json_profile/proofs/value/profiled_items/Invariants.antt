use Rattle.std.proofs.Common.{◌≡◌, ◌++◌, length, map}
use Rattle.std.specs.Vec.Iter.{into_iter_items, into_iter_len}
use Rattle.serde_json.specs.Data.{array}
use Rattle.serde_json.specs.View.{view, items_of, items_view}
use Rattle.json_profile.specs.Profiled.{IsProfiled}
use Rattle.json_profile.proofs.value.profiled_items.Given as goal

abbrev pub invariant-loop-value : goal.invariant-loop-value
invariant-loop-value l =
    (into_iter_len l.value-iterator ≡ length (into_iter_items l.value-iterator))
    × IsProfiled (array (items_view (into_iter_items l.value-iterator)))
    × (items_of (l.list.items ++ map view (into_iter_items l.value-iterator)) ≡ items_view (into_iter_items l.initial.value-iterator))
