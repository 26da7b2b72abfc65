use Rattle.std.proofs.Common.{◌∙◌, ap, sym}
use Rattle.model.specs.Map.{get, get-from_list}
use Rattle.model.specs.Revision.{revs}
use Rattle.revision_runs.specs.Runs.{RunMap}
use Rattle.revision_runs.proofs.runs.Runs.get.Goals as goal

pub returns : goal.returns
returns c = c.copied.ensures ∙ c.get.ensures ∙ sym (get-from_list revs c.self.inside.by_top.entries c.args.top) ∙ ap (λ (m : RunMap). get m c.args.top) c.self.view_is
