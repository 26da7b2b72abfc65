use Rattle.std.specs.Prelude.{refl}
use Rattle.model.specs.Database.{act, changed_by, stripped}
use Rattle.model.proofs.MapLaws.{get-refine_all}
use Rattle.model.proofs.databases.compaction_is_the_strip.Goals as goal

pub returns-clause-each : goal.returns-clause-each
unfolding act changed_by
returns-clause-each c d seat id = get-refine_all (λ _ r. stripped r) d.docs id

pub returns-clause-rest : goal.returns-clause-rest
unfolding act changed_by
returns-clause-rest c d seat = refl
