use Rattle.std.proofs.Common.{rules}
use Rattle.api_json.specs.AllDocs.{listed_data}
use Rattle.api_json.proofs.all_docs.all_listed_len.Goals as goal

pub returns : goal.returns
returns c = c.list_len.ensures listed_data (λ item answered h. search rules)
