use Rattle.std.proofs.Common.{◌∙◌, List, Option, ap, subst, sym, length}
use Rattle.std.specs.List.{All}
use Rattle.std.specs.Vec.Iter.{drain_items}
use Rattle.updater_state.specs.Outcomes.{Fate}
use Rattle.updater_state.specs.Drafts.{Drafted, IsPublished, all_drafts_stand}
use Rattle.updater_state.proofs.DraftLists.{All-tail}
use Rattle.updater_state.proofs.Slots.{length-told}
use Rattle.updater_state.proofs.draft.answer_all.Goals as goal

pub loop-draft-preserved : goal.loop-draft-preserved
loop-draft-preserved g c =
    let front = c.args.front.now in
    let rest = drain_items c.next.new.self in
    let step = c.in-Some.ensures.steps.0 in record {
      published = All-tail (IsPublished g.J.Naming.base front) c.in-Some.draft rest (subst (All (IsPublished g.J.Naming.base front)) step c.loop-draft.invariant.published);
      told = ap (λ (o : List (Option Fate)). all_drafts_stand front o rest) c.answer.ensures ∙ ap (λ (ds : List Drafted). all_drafts_stand front c.loop-draft.outcomes.items ds) (sym step) ∙ c.loop-draft.invariant.told;
      count = ap (λ (o : List (Option Fate)). length o) c.answer.ensures ∙ length-told c.loop-draft.outcomes.items _ _ ∙ c.loop-draft.invariant.count;
    }
