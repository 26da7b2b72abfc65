use Rattle.std.proofs.Common.{rules}
use Rattle.api_json.specs.AllDocs.{listed_data}
use Rattle.http_response.proofs.pieces.write_documents.Goals as goal

pub returns-clause-written : goal.returns-clause-written
returns-clause-written g c = c.write_list.ensures.written listed_data (λ item told h. search rules)
