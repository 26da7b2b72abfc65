-- The walk gives the first changes.
use Rattle.std.specs.Prelude.{map}
use Rattle.std.specs.List.{take-map}
use Rattle.std.specs.Map.Iter.{deref_pair}
use Rattle.std.proofs.Common.{sym, ap, ◌∙◌}
use Rattle.std.proofs.lemmas.Iterator.{YieldsList-from_take}
use Rattle.std.proofs.lemmas.Iterator.Consumers.{YieldsList-from_rest, YieldsList-end}
use Rattle.model.specs.Changes.{row}
use Rattle.changes_feed.proofs.page.rows_of.Goals as goal

pub returns : goal.returns
returns c =
    let all = c.args.changes in
    let t = YieldsList-end (YieldsList-from_take {s = c.into_iter-seq-iterator.result} c.args.most (YieldsList-from_rest {shows = deref_pair} all cc) cc)
    c.loop-seq.yielded _ c.loop-seq.yielded_by _ _ c.in-None.is c.next.ensures.steps in
    c.loop-seq.invariant ∙ ap (map (row c.args.style)) t.0 ∙ sym (take-map (row c.args.style) c.args.most all)
