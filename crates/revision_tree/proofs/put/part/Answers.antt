use Rattle.std.proofs.Common.{◌∙◌, ◌<◌, ◌+◌, refl, length, ap, sym, subst, arith, set}
use Rattle.revision_tree.specs.Rows.{joined, lists_of, AreFilled}
use Rattle.revision_tree.proofs.Pieces.{parted_in_two, filled_two, take_some, drop_some}
use Rattle.revision_tree.proofs.put.part.Goals as goal

pub returns-clause-nodes : goal.returns-clause-nodes
returns-clause-nodes c =
    let low = ap (λ v. v.items) c.in_ok-lower.ensures.ok ∙ c.in_ok-upper.ensures.items in
    let high = ap (λ v. v.items) c.in_ok-upper-2.ensures.ok ∙ c.in_ok-upper.ensures.tail in
    ap (λ ps. joined (lists_of (set ps c.args.place c.in_ok-lower.lower))) c.in_ok-insert.ensures.items
    ∙ parted_in_two c.args.older.now.items c.args.place (c.args.place + 1) c.in_ok-lower.lower c.in_ok-upper-2.upper c.args.nodes.items 32 c.requires.place refl low high

pub returns-clause-filled : goal.returns-clause-filled
returns-clause-filled c = λ h.
    let low = ap (λ v. v.items) c.in_ok-lower.ensures.ok ∙ c.in_ok-upper.ensures.items in
    let high = ap (λ v. v.items) c.in_ok-upper-2.ensures.ok ∙ c.in_ok-upper.ensures.tail in
    let some = take_some 32 c.args.nodes.items (omega arith) (omega (arith, c.requires.long)) in
    let more = drop_some 32 c.args.nodes.items (omega (arith, c.requires.long)) in
    subst (λ ps. AreFilled (lists_of (set ps c.args.place c.in_ok-lower.lower))) (sym c.in_ok-insert.ensures.items)
    (filled_two c.args.older.now.items c.args.place (c.args.place + 1) c.in_ok-lower.lower c.in_ok-upper-2.upper h (subst (λ ns. 0 < length ns) (sym low) some) (subst (λ ns. 0 < length ns) (sym high) more))
