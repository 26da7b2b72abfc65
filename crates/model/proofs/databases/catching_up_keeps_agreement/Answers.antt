use Rattle.std.proofs.Common.{ap, ◌∙◌, length, length-drop}
use Rattle.model.specs.Compaction.{touched}
use Rattle.model.proofs.TouchedLaws.{touched-rest, passed-rises, passed-most}
use Rattle.model.proofs.CatchUpLaws.{Agrees-passed, taken_all, caught_up}
use Rattle.model.proofs.databases.catching_up_keeps_agreement.Goals as goal

pub returns-clause-agrees : goal.returns-clause-agrees
returns-clause-agrees c copy m d n h num within = Agrees-passed copy d m num within n h

pub returns-clause-rest : goal.returns-clause-rest
returns-clause-rest c = touched-rest

pub returns-clause-left : goal.returns-clause-left
returns-clause-left c d m n h = ap length (touched-rest d m n h) ∙ length-drop n (touched d m)

pub returns-clause-rise : goal.returns-clause-rise
returns-clause-rise c = passed-rises

pub returns-clause-most : goal.returns-clause-most
returns-clause-most c = passed-most

pub returns-clause-all : goal.returns-clause-all
returns-clause-all c copy m d id num within agrees = taken_all copy d m num within agrees id

pub returns-clause-done : goal.returns-clause-done
returns-clause-done c copy m d id num within agrees none = caught_up copy d m num within none agrees id
