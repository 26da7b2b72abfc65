use Rattle.std.proofs.Common.{sym, ap, ◌∙◌}
use Rattle.model.specs.Map.{get, get-from_list}
use Rattle.model.specs.Command.{names}
use Rattle.snapshots.specs.Listing.{Listing}
use Rattle.snapshots.proofs.records.Records.get.Goals as goal

pub returns : goal.returns
returns c = c.found.ensures ∙ sym (get-from_list names c.self.inside.by_id.entries c.args.id.now) ∙ ap (λ (l : Listing). get l.docs c.args.id.now) c.self.view_is
