use Rattle.std.proofs.Common.{◌∙◌, ap, sym, subst}
use Rattle.std.specs.List.{filter_map}
use Rattle.std.specs.Prelude.{All}
use Rattle.revision_tree.specs.Nodes.{rows_of}
use Rattle.revision_tree.specs.Rows.{joined, lists_of}
use Rattle.revision_tree.specs.Shortened.{row_above, IsRising}
use Rattle.revision_tree.proofs.Shortened.{above_joined, rising_pieces, rising_last}
use Rattle.revision_tree.proofs.shorten.above.Goals as goal

pub pieces_above-requires-clause-rising : goal.pieces_above-requires-clause-rising
pieces_above-requires-clause-rising c =
    let rs = c.args.rows in
    subst (λ ps. All IsRising (lists_of ps)) (sym c.deref.ensures.value) (rising_pieces rs.older.items rs.last.items c.requires.nodes)

pub last_above-requires : goal.last_above-requires
last_above-requires c = rising_last (joined (lists_of c.args.rows.older.items)) c.args.rows.last.items c.requires.nodes

pub returns-clause-rows : goal.returns-clause-rows
returns-clause-rows c =
    let rs = c.args.rows in
    above_joined c.args.generation (lists_of c.in_ok-older.older.items) c.in_ok-last.last.items (joined (lists_of rs.older.items)) rs.last.items
    (c.in_ok-older.ensures.rows ∙ ap (λ ps. filter_map (row_above c.args.generation) (rows_of (joined (lists_of ps)))) c.deref.ensures.value) c.in_ok-last.ensures
