use Rattle.http_framing.proofs.More.{Splits-push}
use Rattle.http_framing.proofs.laws.next_item.Goals as goal

pub returns : goal.returns
returns c = Splits-push
