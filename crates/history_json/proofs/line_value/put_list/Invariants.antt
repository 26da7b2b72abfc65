use Rattle.std.proofs.Common.{◌≡◌, ◌++◌, ◌∷◌, false, map, take, string_bytes}
use Rattle.api_json.specs.List.{items_so_far, stands_after}
use Rattle.history_json.proofs.line_value.put_list.Given as goal

-- what was written so far
abbrev pub invariant-loop-item : goal.invariant-loop-item
invariant-loop-item g l = record {
  text : string_bytes l.text ≡ string_bytes l.fn.text ++ (91 ∷ items_so_far false (map g.T.LineValue.data_of (take l.item-index l.items)));
  later : l.later ≡ stands_after false (map g.T.LineValue.data_of (take l.item-index l.items));
}
