use Rattle.std.proofs.Common.{◌∙◌, ap}
use Rattle.model.specs.History.{Chronicle}
use Rattle.snapshots.proofs.version.Version.base.Goals as goal

pub returns : goal.returns
returns c = c.database.ensures ∙ ap (λ (k : Chronicle). k.base) c.self.view_is
