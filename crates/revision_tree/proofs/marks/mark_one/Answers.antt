use Rattle.std.proofs.Common.{sym, ap, ◌∙◌, map}
use Rattle.revision_tree.specs.Nodes.{with_mark}
use Rattle.revision_tree.proofs.Places.{rising}
use Rattle.revision_tree.proofs.Marked.{one_mark, unknown_mark, no_parent}
use Rattle.revision_tree.proofs.marks.mark_one.Goals as goal

pub returns-in-Some-place_among : goal.returns-in-Some-place_among
returns-in-Some-place_among c =
    let nodes = c.args.nodes.now in
    let d = c.index-nodes-place.result in
    one_mark nodes c.in-Some.parent c.in-Some-place_among.place d (rising nodes c.requires) c.in-Some-place_among.ensures.place.within (c.in-Some-place_among.ensures.place.rev d)
    ∙ ap (λ o. map (with_mark o) nodes) (sym c.in-Some.is)

pub returns-in_default : goal.returns-in_default
returns-in_default c = no_parent c.args.nodes.now c.args.parent c.in_default.is

pub returns-in_default-place_among : goal.returns-in_default-place_among
returns-in_default-place_among c =
    let nodes = c.args.nodes.now in
    sym (unknown_mark nodes c.in-Some.parent c.requires (sym c.in_default-place_among.ensures.known)) ∙ ap (λ o. map (with_mark o) nodes) (sym c.in-Some.is)
