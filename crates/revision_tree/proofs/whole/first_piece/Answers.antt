use Rattle.std.proofs.Common.{◌∙◌, ◌++◌, ap, sym, drop, arith}
use Rattle.revision_tree.specs.Rows.{joined, lists_of}
use Rattle.revision_tree.proofs.Ends.{first_parts, some_from}
use Rattle.revision_tree.proofs.whole.first_piece.Goals as goal

pub returns-clause-parts : goal.returns-clause-parts
returns-clause-parts c =
    let rs = c.args.rows.now in
    let some = some_from rs.older.len (sym c.is_empty.ensures ∙ c.if-is_empty.false) in (
      joined (drop 1 (lists_of rs.older.items)) ++ rs.last.items,
      first_parts rs.older.items c.index.result.now c.deref-3.result.now rs.last.items (omega (arith, some, rs.older.ok.0)) c.index.ensures (c.deref-3.ensures.value ∙ ap (λ v. v.items) c.deref-2.ensures),
    )
