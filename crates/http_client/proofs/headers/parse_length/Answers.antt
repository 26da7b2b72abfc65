use Rattle.http_client.proofs.Values.{no_text}
use Rattle.http_client.proofs.headers.parse_length.Goals as goal

pub returns-in_default : goal.returns-in_default
returns-in_default c = no_text c.args.value.now c.in_default.ensures.cases.0
