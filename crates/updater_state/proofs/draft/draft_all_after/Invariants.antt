use Rattle.std.specs.Arc.{arc_value}
use Rattle.std.proofs.Common.{◌≡◌, ◌++◌, drop}
use Rattle.updater_state.specs.Drafts.{drafts_from}
use Rattle.updater_state.proofs.draft.draft_all_after.Given as goal

-- with the drafts of the rest, all are there
abbrev pub invariant-loop-place : goal.invariant-loop-place
invariant-loop-place l = l.drafts.items ++ drafts_from (arc_value l.version) l.place (drop l.place (arc_value l.version).entries) ≡ drafts_from (arc_value l.version) l.fn.after (drop l.fn.after (arc_value l.version).entries)
