use Rattle.journal.proofs.Marked.{no_number}
use Rattle.journal.proofs.mark.number_of.Goals as goal

pub returns-in_default : goal.returns-in_default
returns-in_default c = no_number c.args.digits.now c.in_default.ensures.cases.0
