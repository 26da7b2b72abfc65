use Rattle.std.proofs.Common.{◌∙◌, ap, Some, Ok}
use Rattle.std.specs.Prelude.{not}
use Rattle.tree_merge.proofs.Unaltered.{has_body, grafts_nothing}
use Rattle.tree_merge.proofs.Writes.{written_ok}
use Rattle.tree_merge.proofs.unchanged.is_written.Goals as goal

pub returns : goal.returns
returns c = λ e body deleted.
    let t = c.args.tree.now in
    let some = c.is_none.ensures in
    let has = has_body _ _ c.body_of.result _ c.body_of.ensures (some ∙ ap not c.if-is_none.false) in
    written_ok c.args.limit (Some t) c.args.path.now body deleted t
    (grafts_nothing t c.oldest-recalled.ensures.tree.forest c.args.path.now c.newest-item.result body deleted c.requires c.newest-item.is has (c.has_links.ensures c.if-not-has_links.false))
    ∙ ap Ok (c.is_stem.ensures e)
