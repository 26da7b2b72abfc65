-- What an outcome says became of the job.
use Rattle.updater_state.specs.declared.outcome.OutcomeKind.{OutcomeKind}
use Rattle.updater_state.specs.declared.outcome.OutcomeKind.TheVariants as kinds
use Rattle.updater_state.specs.Outcomes.{Fate, StoodAt, NoPlaceLeft, NoMemory, LeftOut}

abbrev pub fate_of : {J : Type 0} → OutcomeKind J → Fate
fate_of (kinds.Stood s) = StoodAt s
fate_of (kinds.Full found) = NoPlaceLeft found
fate_of kinds.Memory = NoMemory
fate_of kinds.Dropped = LeftOut
