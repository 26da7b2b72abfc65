use Rattle.std.proofs.Common.{◌≡◌, ℕ, ◌+◌, arith, map, subst, sym, take}
use Rattle.replicator.specs.Bulk.{merge_text}
use Rattle.replicator.proofs.Lengths.{all-go, one-more, one-too-many, total}
use Rattle.replicator.proofs.sizes.bulk_len.Goals as goal

pub returns-then-text-size : goal.returns-then-text-size
returns-then-text-size c =
    let inv = c.loop-document.invariant in
    one-too-many c.args.documents.now c.loop-document.document-index c.loop-document.size c.document-item.result c.in_ok-text.text c.at_least_one.result
    (omega arith) c.document-item.is c.in_ok-text.ensures inv.size inv.within (omega arith) (omega arith)

pub loop-document-preserved : goal.loop-document-preserved
loop-document-preserved c =
    let more = one-more c.args.documents.now c.loop-document.document-index c.document-item.result c.in_ok-text.text (omega arith) c.document-item.is c.in_ok-text.ensures in
    record { len = omega arith; size = omega arith; within = omega arith }

pub returns : goal.returns
returns c =
    let inv = c.loop-document.invariant in
    let docs = c.args.documents.now in
    let size = subst (λ (k : ℕ). c.loop-document.size ≡ 28 + total (map merge_text (take k docs))) (sym inv.len) inv.size in
    all-go docs c.loop-document.len c.loop-document.size c.requires (omega arith) size inv.within
