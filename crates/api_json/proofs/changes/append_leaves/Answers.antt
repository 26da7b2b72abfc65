use Rattle.std.proofs.Common.{rules}
use Rattle.api_json.specs.Changes.{named_rev_data}
use Rattle.api_json.proofs.changes.append_leaves.Goals as goal

pub returns : goal.returns
returns c = c.append_list.ensures named_rev_data (λ item answered h. search rules)
