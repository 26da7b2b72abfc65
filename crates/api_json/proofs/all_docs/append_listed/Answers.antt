use Rattle.std.proofs.Common.{rules}
use Rattle.api_json.specs.AllDocs.{listed_data}
use Rattle.api_json.proofs.all_docs.append_listed.Goals as goal

pub returns : goal.returns
returns c = c.append_list.ensures listed_data (λ item told h. search rules)
