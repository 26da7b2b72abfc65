use Rattle.std.proofs.Common.{◌≡◌, ◌+◌, ◌≤◌, map, take}
use Rattle.replicator.specs.Bulk.{merge_text}
use Rattle.replicator.proofs.Lengths.{total}
use Rattle.replicator.proofs.sizes.bulk_len.Given as goal

abbrev pub invariant-loop-document : goal.invariant-loop-document
invariant-loop-document l = record {
  len : l.len ≡ l.document-index;
  size : l.size ≡ 28 + total (map merge_text (take l.document-index l.documents));
  within : l.size ≤ 1048576;
}
