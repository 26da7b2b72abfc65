use Rattle.std.proofs.Common.{rules}
use Rattle.api_json.specs.Changes.{named_rev_data}
use Rattle.api_json.proofs.changes.leaves_len.Goals as goal

pub returns : goal.returns
returns c = c.list_len.ensures named_rev_data (λ item answered h. search rules)
