use Rattle.std.specs.Prelude.{refl}
use Rattle.std.proofs.Common.{ap}
use Rattle.model.specs.Query.{Differences, Documents, Counted}
use Rattle.model.specs.Database.{act, changed_by}
use Rattle.model.specs.Changes.{by_seq, changes_page}
use Rattle.model.specs.Answers.{answer_to}
use Rattle.model.proofs.UnseenLaws.{changes-compacted, differences-compacted, live-compacted, counts-compacted}
use Rattle.model.proofs.ShownLaws.{found-compacted, opened-compacted}
use Rattle.model.proofs.databases.compaction_is_unseen.Goals as goal

pub returns-clause-changes : goal.returns-clause-changes
unfolding act changed_by by_seq changes_page
returns-clause-changes c wanted d seat since limit style = changes-compacted wanted d since style limit

pub returns-clause-differences : goal.returns-clause-differences
unfolding act changed_by answer_to
returns-clause-differences c d seat asked = ap Differences (differences-compacted d asked)

pub returns-clause-live : goal.returns-clause-live
unfolding act changed_by answer_to
returns-clause-live c d seat = ap Documents (live-compacted d)

pub returns-clause-info : goal.returns-clause-info
unfolding act changed_by answer_to
returns-clause-info c d seat = ap Counted (counts-compacted d)

pub returns-clause-limit : goal.returns-clause-limit
unfolding act changed_by answer_to
returns-clause-limit c d seat = refl

pub returns-clause-purged_limit : goal.returns-clause-purged_limit
unfolding act changed_by answer_to
returns-clause-purged_limit c d seat = refl

pub returns-clause-local : goal.returns-clause-local
unfolding act changed_by answer_to
returns-clause-local c d seat id = refl

pub returns-clause-winner : goal.returns-clause-winner
unfolding act changed_by
returns-clause-winner c d seat id options plain = found-compacted d id options plain

pub returns-clause-leaves : goal.returns-clause-leaves
unfolding act changed_by
returns-clause-leaves c d seat id options plain = opened-compacted d id options plain
