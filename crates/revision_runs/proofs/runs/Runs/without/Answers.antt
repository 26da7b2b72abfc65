use Rattle.std.proofs.Common.{◌∙◌, sym}
use Rattle.revision_runs.proofs.Found.{without_none}
use Rattle.revision_runs.proofs.runs.Runs.without.Goals as goal

pub returns-in_default : goal.returns-in_default
returns-in_default c = sym (without_none c.args.self c.args.top (sym c.get.ensures ∙ c.in_default.is))
