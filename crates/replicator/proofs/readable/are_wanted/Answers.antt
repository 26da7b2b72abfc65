use Rattle.std.proofs.Common.{◌∙◌, List, Option, ap, sym}
use Rattle.model.specs.Command.{Id}
use Rattle.replicator.specs.Readable.{are_wanted}
use Rattle.replicator.proofs.OfWanted.{all-wanted}
use Rattle.replicator.proofs.readable.are_wanted.Goals as goal

pub returns-in-None : goal.returns-in-None
returns-in-None c = sym (ap (λ (o : Option (List Id)). are_wanted o c.args.rows.now) c.in-None.is ∙ all-wanted c.args.rows.now)
