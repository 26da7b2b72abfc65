use Rattle.std.specs.Arc.{arc_value}
use Rattle.std.proofs.Common.{◌+◌, ◌∷◌, ◌++◌, ◌∙◌, List, [], ap, drop}
use Rattle.updater_state.specs.Drafts.{Drafted, drafts_from}
use Rattle.updater_state.proofs.DraftLists.{drafted, drafts_more}
use Rattle.updater_state.proofs.draft.draft_all_after.Goals as goal

pub loop-place-preserved : goal.loop-place-preserved
loop-place-preserved c =
    let v = arc_value c.args.version.now in
    let place = c.loop-place.place in
    let old = c.loop-place.drafts.items in
    let found = drafted v place c.in_ok-draft.field-0 c.in-Some.draft c.in_ok-draft.ensures c.in-Some.is in
    ap (λ (ds : List Drafted). ds ++ drafts_from v (place + 1) (drop (place + 1) v.entries)) (c.in_ok-push.ensures.items ∙ ap (λ (d : Drafted). old ++ d ∷ []) found.2)
    ∙ drafts_more v old _ place found.0 found.1 c.loop-place.invariant
