use Rattle.std.proofs.Common.{rules}
use Rattle.serde_json.specs.Data.{string}
use Rattle.replicator_http.proofs.requests.filtered.append_ids.Goals as goal

pub returns : goal.returns
returns c = c.append_list.ensures string (λ item told h. search rules)
