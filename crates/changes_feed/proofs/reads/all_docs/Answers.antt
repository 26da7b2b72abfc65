-- A live document goes last, and another one is passed over.
use Rattle.std.specs.Prelude.{◌∷◌, ◌++◌, []}
use Rattle.std.specs.Map.Iter.{deref_pair}
use Rattle.std.proofs.Common.{sym, ap, ◌∙◌}
use Rattle.model.specs.Answers.{live_document}
use Rattle.changes_feed.proofs.RowLists.{filter_map-more, filter_map-same}
use Rattle.changes_feed.proofs.reads.all_docs.Goals as goal

pub loop-id-preserved-in-Continue-branch-3 : goal.loop-id-preserved-in-Continue-branch-3
loop-id-preserved-in-Continue-branch-3 c =
    c.in_ok-push.ensures.items
    ∙ ap (λ ds. ds ++ c.in-Some-2.document ∷ []) c.loop-id.invariant
    ∙ sym (filter_map-more deref_pair live_document c.loop-id.yielded (c.in-Some.id, c.in-Some.record) c.in-Some-2.document
    (ap (λ r. live_document (c.in-Some.id.now, r)) (sym c.get.ensures) ∙ sym c.in_ok-document.ensures ∙ c.in-Some-2.is))

pub loop-id-preserved : goal.loop-id-preserved
loop-id-preserved c =
    c.loop-id.invariant
    ∙ sym (filter_map-same deref_pair live_document c.loop-id.yielded (c.in-Some.id, c.in-Some.record)
    (ap (λ r. live_document (c.in-Some.id.now, r)) (sym c.get.ensures) ∙ sym c.in_ok-document.ensures ∙ c.in_default.is))
