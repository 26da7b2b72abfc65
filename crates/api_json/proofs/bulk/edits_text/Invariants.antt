use Rattle.std.specs.Iterator.Adapters.{zip_first, zip_second}
use Rattle.std.specs.Slice.Iter.{iter_rest}
use Rattle.api_json.specs.Bulk.{edits_data}
use Rattle.api_json.proofs.BulkLists.{Remain}
use Rattle.api_json.proofs.bulk.edits_text.Given as goal

-- what is left is of the rest of both slices
abbrev pub invariant-loop-edit : goal.invariant-loop-edit
invariant-loop-edit l = Remain l.list (edits_data (iter_rest (zip_first l.edit-iterator)) (iter_rest (zip_second l.edit-iterator))) (edits_data l.edits l.outcomes)
