use Rattle.std.proofs.Common.{◌≡◌, ◌∙◌, Some, None, sym, ap}
use Rattle.revision_tree.specs.Rows.{items_of}
use Rattle.revision_tree.proofs.Ranked.{greatest_of}
use Rattle.revision_tree.proofs.Walked.{greatest_back, greatest_here}
use Rattle.revision_tree.proofs.leaf.greatest_in.Goals as goal

pub returns-in-Some : goal.returns-in-Some
returns-in-Some c =
    let p = c.index-pieces-place.result in
    let here : greatest_of c.args.deleted (items_of p) ≡ Some c.in-Some.leaf = ap (greatest_of c.args.deleted) (sym (c.deref-in-loop-place.ensures.value ∙ ap (λ v. v.items) c.deref.ensures)) ∙ sym c.greatest_among.ensures ∙ c.in-Some.is in
    greatest_here c.args.deleted c.args.pieces.now c.loop-place.place p c.in-Some.leaf c.loop-place-test.true c.loop-place.auto.place c.index-pieces-place.is c.loop-place.invariant here

pub loop-place-preserved : goal.loop-place-preserved
loop-place-preserved c =
    let p = c.index-pieces-place.result in
    let here : greatest_of c.args.deleted (items_of p) ≡ None = ap (greatest_of c.args.deleted) (sym (c.deref-in-loop-place.ensures.value ∙ ap (λ v. v.items) c.deref.ensures)) ∙ sym c.greatest_among.ensures ∙ c.in_default.is in
    greatest_back c.args.deleted c.args.pieces.now c.loop-place.place p c.loop-place-test.true c.loop-place.auto.place c.index-pieces-place.is c.loop-place.invariant ∙ here
