use Rattle.std.proofs.Common.{◌≡◌, length}
use Rattle.std.specs.List.{All}
use Rattle.std.specs.Vec.Iter.{drain_items}
use Rattle.updater_state.specs.Drafts.{IsPublished, all_drafts_stand}
use Rattle.updater_state.proofs.draft.answer_all.Given as goal

abbrev pub invariant-loop-draft : goal.invariant-loop-draft
invariant-loop-draft g l = record {
  published : All (IsPublished g.J.Naming.base l.front) (drain_items l.draft-iterator);
  told : all_drafts_stand l.front l.outcomes.items (drain_items l.draft-iterator) ≡ all_drafts_stand l.front l.initial.outcomes.items l.fn.drafts.items;
  count : length l.outcomes.items ≡ length l.initial.outcomes.items;
}
