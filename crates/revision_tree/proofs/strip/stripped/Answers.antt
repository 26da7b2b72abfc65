use Rattle.std.proofs.Common.{◌∙◌, ap, map}
use Rattle.revision_tree.specs.Bared.{bare_row}
use Rattle.revision_tree.specs.Nodes.{rows_of}
use Rattle.revision_tree.specs.Rows.{lists_of}
use Rattle.revision_tree.proofs.Stripped.{bare_whole, bare_filled}
use Rattle.revision_tree.proofs.strip.stripped.Goals as goal

pub returns-clause-rows : goal.returns-clause-rows
returns-clause-rows c =
    let rs = c.args.rows.now in
    bare_whole (lists_of c.in_ok-bare_pieces.field-0.items) (lists_of rs.older.items) c.in_ok-bared.field-0.items rs.last.items
    (c.in_ok-bare_pieces.ensures ∙ ap (λ ps. map (λ ns. map bare_row (rows_of ns)) (lists_of ps)) c.deref.ensures.value) (c.in_ok-bared.ensures ∙ ap (λ ns. map bare_row (rows_of ns)) c.deref-2.ensures.value)

pub returns-clause-filled : goal.returns-clause-filled
returns-clause-filled c =
    let rs = c.args.rows.now in
    bare_filled (lists_of c.in_ok-bare_pieces.field-0.items) (lists_of rs.older.items) (c.in_ok-bare_pieces.ensures ∙ ap (λ ps. map (λ ns. map bare_row (rows_of ns)) (lists_of ps)) c.deref.ensures.value) c.requires
