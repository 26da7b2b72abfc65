use Rattle.std.proofs.Common.{◌≡◌, ◌+◌, length}
use Rattle.std.specs.Vec.Iter.{into_iter_items, into_iter_len}
use Rattle.document_json.specs.Each.{each as each_of}
use Rattle.document_json.specs.Steps.{Checked, Decides}
use Rattle.document_json.proofs.Passes.{after}
use Rattle.document_json.proofs.values.each.Given as goal

-- what was found so far, before what is found of the values that are left
abbrev pub invariant-loop-value : goal.invariant-loop-value
invariant-loop-value g l =
    (goal.iterator-loop-value g).can_next l.value-iterator
    × (goal.iterator-loop-value g).is_finite l.value-iterator
    × (into_iter_len l.value-iterator ≡ length (into_iter_items l.value-iterator))
    × (length l.found.items + length (into_iter_items l.value-iterator) ≡ length l.fn.values.items)
    × ((decided : _ → Checked _) → ((x : _) (found : _) → goal.F-post g l.check x found → Decides found (decided x))
    → each_of decided l.fn.values.items ≡ after l.found.items (each_of decided (into_iter_items l.value-iterator)))
