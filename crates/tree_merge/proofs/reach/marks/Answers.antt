use Rattle.std.proofs.Common.{◌≡◌, ◌∙◌, ap, sym, length, arith}
use Rattle.std.proofs.Math.ListN.{length-map}
use Rattle.std.proofs.lemmas.List.{with_items_is}
use Rattle.model.specs.Map.{entries}
use Rattle.model.specs.Revision.{Rev}
use Rattle.model.specs.Tree.{Revision}
use Rattle.tree_merge.specs.Reach.{first_mark, reach}
use Rattle.tree_merge.proofs.Raised.{list_itself, list_long, marks_by}
use Rattle.tree_merge.proofs.reach.marks.Goals as goal

pub carry-requires-clause-listed : goal.carry-requires-clause-listed
carry-requires-clause-listed c = list_itself c.args.nodes.now c.args.tree.now c.requires

pub carry-requires-clause-long : goal.carry-requires-clause-long
carry-requires-clause-long c =
    let es = entries c.args.tree.now in
    let g = first_mark c.args.limit c.args.named.now c.args.tree.now in
    let same = c.deref_mut.ensures.value ∙ c.in_ok-marks.ensures in
    omega (arith, ap length same, length-map es (λ (e : Rev × Revision). g e.0), list_long c.args.nodes.now c.args.tree.now c.requires)

pub returns : goal.returns
returns c =
    let es = entries c.args.tree.now in
    let g = first_mark c.args.limit c.args.named.now c.args.tree.now in
    let is = c.carry.ensures g (c.deref_mut.ensures.value ∙ c.in_ok-marks.ensures ∙ ap (marks_by g) c.requires.entries) ∙ ap (λ xs. marks_by (reach g xs) xs) (sym c.requires.entries) in
    let long : length c.carry.new.marks ≡ c.in_ok-marks.marks.len = omega (arith, ap length is, length-map es (λ (e : Rev × Revision). reach g es e.0), ap length c.in_ok-marks.ensures, length-map es (λ (e : Rev × Revision). g e.0), c.in_ok-marks.marks.ok.0) in
    with_items_is c.in_ok-marks.marks c.carry.new.marks long ∙ is
