use Rattle.request_log.proofs.Values.{no_text}
use Rattle.request_log.proofs.head.number_of.Goals as goal

pub returns-in_default : goal.returns-in_default
returns-in_default c = no_text c.args.value.now c.in_default.ensures.cases.0
