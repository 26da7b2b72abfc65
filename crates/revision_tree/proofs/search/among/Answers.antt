use Rattle.std.proofs.Common.{◌≡◌, ◌∙◌, ap, sym, subst, Some, false}
use Rattle.std.specs.Prelude.{is_some}
use Rattle.std.specs.FinMap.Entries.{find}
use Rattle.model.specs.Revision.{rev_cmp}
use Rattle.model.specs.Tree.{knows}
use Rattle.revision_tree.specs.Nodes.{row_of, rows_of, tree_of}
use Rattle.revision_tree.proofs.Places.{placed}
use Rattle.revision_tree.proofs.Rowed.{row_found, row_unknown}
use Rattle.revision_tree.proofs.search.among.Goals as goal

pub returns-in_default-clause-found : goal.returns-in_default-clause-found
returns-in_default-clause-found c =
    let ns = c.piece_of-piece.result.now in
    let k : knows (tree_of ns) c.args.rev ≡ false = sym c.place_among.ensures.known ∙ ap is_some c.in_default.is in
    sym (c.piece_of-piece.ensures.found ∙ row_unknown ns c.args.rev c.piece_of-piece.ensures.sorted k)

pub returns-clause-found : goal.returns-clause-found
returns-clause-found c =
    let ns = c.piece_of-piece.result.now in
    let n = c.index-piece-place.result in
    let at = placed ns c.args.rev c.in-Some.place n c.in-Some.ensures.place c.index-piece-place.is in
    sym (c.piece_of-piece.ensures.found ∙ subst (λ r. find rev_cmp r (rows_of ns) ≡ Some (row_of n).1) at.1 (row_found ns n c.piece_of-piece.ensures.sorted at.0))
