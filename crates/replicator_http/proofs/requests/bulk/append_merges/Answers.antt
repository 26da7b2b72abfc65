use Rattle.std.proofs.Common.{rules}
use Rattle.document_json.specs.Written.{merge_data}
use Rattle.replicator_http.proofs.requests.bulk.append_merges.Goals as goal

pub returns : goal.returns
returns c = c.append_list.ensures merge_data (λ item told h. search rules)
