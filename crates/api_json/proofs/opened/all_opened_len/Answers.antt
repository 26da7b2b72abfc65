use Rattle.std.proofs.Common.{rules}
use Rattle.api_json.specs.Opened.{opened_data}
use Rattle.api_json.proofs.opened.all_opened_len.Goals as goal

pub returns : goal.returns
returns c = c.list_len.ensures opened_data (λ item answered h. search rules)
