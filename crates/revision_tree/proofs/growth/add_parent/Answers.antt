use Rattle.std.proofs.Common.{sym}
use Rattle.revision_tree.specs.Growth.{as_parent, seen_in}
use Rattle.revision_tree.specs.Nodes.{rows_of}
use Rattle.revision_tree.specs.Rows.{nodes_of}
use Rattle.revision_tree.proofs.Putting.{put-found}
use Rattle.revision_tree.proofs.Rowed.{sorted_rows}
use Rattle.revision_tree.proofs.growth.add_parent.Goals as goal

pub returns-then-is_parent-clause-put : goal.returns-then-is_parent-clause-put
returns-then-is_parent-clause-put c =
    let ns = nodes_of c.args.rows.now in
    sym (put-found c.args.rev (as_parent c.args.older.now (seen_in (rows_of ns) c.args.rev)) (rows_of ns) (sorted_rows ns c.requires.sorted) (c.is_parent.ensures c.if-is_parent.true))
