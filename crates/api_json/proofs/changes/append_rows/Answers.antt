use Rattle.std.proofs.Common.{rules}
use Rattle.api_json.specs.Changes.{row_data}
use Rattle.api_json.proofs.changes.append_rows.Goals as goal

pub returns : goal.returns
returns c = c.append_list.ensures row_data (λ item told h. search rules)
