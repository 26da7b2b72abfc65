use Rattle.std.proofs.Common.{◌≡◌, ◌∷◌, ◌++◌, false, map, string_bytes}
use Rattle.std.specs.Map.Iter.{deref_pair}
use Rattle.api_json.specs.List.{items_so_far, stands_after}
use Rattle.base_json.specs.Base.{record_data}
use Rattle.base_json.proofs.documents.put_documents.Given as goal

-- what was written so far
abbrev pub invariant-loop-id : goal.invariant-loop-id
invariant-loop-id l = record {
  text : string_bytes l.text ≡ string_bytes l.fn.text ++ (91 ∷ items_so_far false (map record_data (map deref_pair l.yielded)));
  later : l.later ≡ stands_after false (map record_data (map deref_pair l.yielded));
}
