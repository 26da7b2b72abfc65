use Rattle.model.proofs.AgreeLaws.{Agrees-follows, is_overrun-follows}
use Rattle.model.proofs.histories.agreement_follows.Goals as goal

pub returns-clause-agrees : goal.returns-clause-agrees
returns-clause-agrees c copy m later earlier = Agrees-follows earlier copy m later

pub returns-clause-overrun : goal.returns-clause-overrun
returns-clause-overrun c later earlier = is_overrun-follows earlier later
