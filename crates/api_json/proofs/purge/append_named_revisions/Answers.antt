use Rattle.std.proofs.Common.{rules}
use Rattle.api_json.specs.Purge.{named_leaves}
use Rattle.api_json.proofs.purge.append_named_revisions.Goals as goal

pub returns : goal.returns
returns c = c.append_object.ensures named_leaves (λ written item told longer h. search rules)
