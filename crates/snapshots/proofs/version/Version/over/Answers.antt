use Rattle.std.proofs.Common.{◌∙◌, ap}
use Rattle.std.specs.Prelude.{Some}
use Rattle.snapshots.proofs.Epochs.{IsVersion-begun, view-begun}
use Rattle.snapshots.proofs.version.Version.over.Goals as goal

pub invariant_of-result : goal.invariant_of-result
invariant_of-result c = IsVersion-begun c.args.database c.in_ok-base.base c.new-2.result.values c.requires (c.in_ok-base.ensures ∙ ap Some c.in_ok-share.ensures) c.new-2.ensures.values

pub returns : goal.returns
returns c = view-begun c.args.database c.in_ok-base.base c.new-2.result.values (c.in_ok-base.ensures ∙ ap Some c.in_ok-share.ensures) c.new-2.ensures.values
