use Rattle.std.proofs.Common.{◌∙◌, ap, sym, subst}
use Rattle.std.specs.List.{filter_map}
use Rattle.std.specs.Prelude.{All}
use Rattle.revision_tree.specs.Nodes.{rows_of}
use Rattle.revision_tree.specs.Rows.{joined, lists_of}
use Rattle.revision_tree.specs.Trimmed.{row_without, IsPart}
use Rattle.revision_tree.proofs.Trimmed.{without_joined, parts_of}
use Rattle.revision_tree.proofs.trim.without.Goals as goal

pub pieces_without-requires-clause-parts : goal.pieces_without-requires-clause-parts
pieces_without-requires-clause-parts c =
    let rs = c.args.rows.now in
    subst (λ ps. All (IsPart c.args.rev c.args.child) (lists_of ps)) (sym c.deref.ensures.value) (parts_of c.args.rev c.args.child rs.older.items rs.last.items c.requires.rows.nodes c.requires.child)

pub returns-clause-rows : goal.returns-clause-rows
returns-clause-rows c =
    let rs = c.args.rows.now in
    let r = c.args.rev in
    without_joined (row_without r) (lists_of c.in_ok-older.older.items) c.in_ok-last.last.items (joined (lists_of rs.older.items)) rs.last.items
    (c.in_ok-older.ensures.rows ∙ ap (λ ps. filter_map (row_without r) (rows_of (joined (lists_of ps)))) c.deref.ensures.value)
    (c.in_ok-last.ensures ∙ ap (λ ns. filter_map (row_without r) (rows_of ns)) c.deref-2.ensures.value)
