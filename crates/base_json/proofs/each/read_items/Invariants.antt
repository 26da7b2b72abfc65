use Rattle.std.proofs.Common.{◌≡◌, List, All, map, length}
use Rattle.std.specs.Vec.Iter.{into_iter_items, into_iter_len}
use Rattle.history_json.proofs.Rests.{Rest}
use Rattle.base_json.proofs.each.read_items.Given as goal

-- what was found so far shows as the beginning of whatever the values stand for
abbrev pub invariant-loop-value : goal.invariant-loop-value
invariant-loop-value g l =
    (goal.iterator-loop-value g).can_next l.value-iterator
    × (goal.iterator-loop-value g).is_finite l.value-iterator
    × (into_iter_len l.value-iterator ≡ length (into_iter_items l.value-iterator))
    × ((items : List _) → All g.T.ListItem.is_within items → l.fn.values.items ≡ map g.T.ListItem.data_of items
    → Rest g.T.ListItem.data_of g.T.ListItem.is_within (into_iter_items l.value-iterator) (map g.T.ListItem.shown l.found.items) items)
