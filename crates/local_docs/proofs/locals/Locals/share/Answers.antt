use Rattle.std.proofs.Common.{◌∙◌}
use Rattle.model.specs.Map.{same_list}
use Rattle.local_docs.proofs.locals.Locals.share.Goals as goal

pub returns : goal.returns
returns c = record { same = same_list _ _ c.in_ok-share.ensures.entries ∙ c.self.view_is }
