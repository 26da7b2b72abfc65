use Rattle.std.specs.Iterator.Adapters.{zip_first, zip_second}
use Rattle.std.specs.Slice.Iter.{iter_rest}
use Rattle.api_json.specs.Bulk.{merges_data}
use Rattle.api_json.proofs.BulkLists.{Remain}
use Rattle.api_json.proofs.bulk.merges_text.Given as goal

-- what is left is of the rest of both slices
abbrev pub invariant-loop-merge : goal.invariant-loop-merge
invariant-loop-merge l = Remain l.list (merges_data (iter_rest (zip_first l.merge-iterator)) (iter_rest (zip_second l.merge-iterator))) (merges_data l.merges l.outcomes)
