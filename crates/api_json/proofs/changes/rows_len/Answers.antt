use Rattle.std.proofs.Common.{rules}
use Rattle.api_json.specs.Changes.{row_data}
use Rattle.api_json.proofs.changes.rows_len.Goals as goal

pub returns : goal.returns
returns c = c.list_len.ensures row_data (λ item answered h. search rules)
