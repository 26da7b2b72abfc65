use Rattle.std.proofs.Common.{◌∙◌, ◌<◌, ◌++◌, length, ap, sym, subst, arith}
use Rattle.revision_tree.specs.Rows.{joined, lists_of, AreFilled}
use Rattle.revision_tree.proofs.Pieces.{settled, filled_more, take_some}
use Rattle.revision_tree.proofs.put.settle.Goals as goal

pub returns-clause-nodes : goal.returns-clause-nodes
returns-clause-nodes c =
    let p = c.in_ok-new.field-0 in
    let front = ap (λ v. v.items) (c.in_ok-new.ensures.ok ∙ c.replace-piece.ensures.value) ∙ c.in_ok-newest.ensures.items in
    let rest = ap (λ v. v.items) c.replace-piece.ensures.after ∙ c.in_ok-newest.ensures.tail in
    ap (λ ps. joined (lists_of ps) ++ c.replace-piece.new.dest.items) c.in_ok-push.ensures.items ∙ settled c.args.older.now.items p c.args.last.now.items 64 c.replace-piece.new.dest.items front rest

pub returns-clause-filled : goal.returns-clause-filled
returns-clause-filled c = λ h.
    let p = c.in_ok-new.field-0 in
    let front = ap (λ v. v.items) (c.in_ok-new.ensures.ok ∙ c.replace-piece.ensures.value) ∙ c.in_ok-newest.ensures.items in
    let some = take_some 64 c.args.last.now.items (omega arith) (omega (arith, c.if-len-le-MOST.false, c.len.ensures, c.args.last.now.ok.0)) in
    subst (λ ps. AreFilled (lists_of ps)) (sym c.in_ok-push.ensures.items) (filled_more c.args.older.now.items p h (subst (λ ns. 0 < length ns) (sym front) some))
