use Rattle.std.proofs.Common.{◌≡◌, ◌∷◌, ◌++◌, false, map, string_bytes}
use Rattle.api_json.specs.List.{items_so_far, stands_after}
use Rattle.revision_tree.specs.Nodes.{entry_of}
use Rattle.base_json.specs.Base.{revision_data}
use Rattle.base_json.proofs.revisions.put_tree.Given as goal

-- what was written so far
abbrev pub invariant-loop-node : goal.invariant-loop-node
invariant-loop-node l = record {
  text : string_bytes l.text ≡ string_bytes l.fn.text ++ (91 ∷ items_so_far false (map (λ n. revision_data (entry_of n)) (map (λ x. x.now) l.yielded)));
  later : l.later ≡ stands_after false (map (λ n. revision_data (entry_of n)) (map (λ x. x.now) l.yielded));
}
