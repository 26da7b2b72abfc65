use Rattle.std.proofs.Common.{rules}
use Rattle.api_json.specs.Changes.{row_data}
use Rattle.http_response.proofs.pieces.write_rows.Goals as goal

pub returns-clause-written : goal.returns-clause-written
returns-clause-written g c = c.write_list.ensures.written row_data (λ item told h. search rules)
