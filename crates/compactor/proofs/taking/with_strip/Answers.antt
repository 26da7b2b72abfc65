use Rattle.std.proofs.Common.{ap, sym, subst, ◌∙◌}
use Rattle.model.specs.Map.{put}
use Rattle.model.specs.Database.{Record}
use Rattle.snapshots.specs.Listing.{IsFree}
use Rattle.compactor.proofs.taking.with_strip.Goals as goal

pub put-requires-clause-free : goal.put-requires-clause-free
put-requires-clause-free c = subst (IsFree c.args.records.docs c.args.id.now) (sym (ap (λ (r : Record). r.seq) c.in_ok-stripped.ensures)) c.requires.free

pub returns : goal.returns
returns c = c.in_ok-placed.ensures ∙ ap (λ (r : Record). record c.args.records { docs = put c.args.records.docs c.args.id.now r }) c.in_ok-stripped.ensures
