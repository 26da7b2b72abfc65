use Rattle.std.proofs.Common.{◌≡◌, ◌∷◌, ◌++◌, false, map, string_bytes}
use Rattle.std.specs.Map.Iter.{deref_pair}
use Rattle.api_json.specs.List.{items_so_far, stands_after}
use Rattle.base_json.specs.Base.{purge_info_data}
use Rattle.purge.specs.Log.{info_of}
use Rattle.base_json.proofs.purges.put_purges.Given as goal

-- what was written so far
abbrev pub invariant-loop-seq : goal.invariant-loop-seq
invariant-loop-seq l = record {
  text : string_bytes l.text ≡ string_bytes l.fn.text ++ (91 ∷ items_so_far false (map (λ e. purge_info_data (info_of e)) (map deref_pair l.yielded)));
  later : l.later ≡ stands_after false (map (λ e. purge_info_data (info_of e)) (map deref_pair l.yielded));
}
