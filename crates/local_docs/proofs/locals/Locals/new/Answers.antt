use Rattle.model.specs.Map.{same_list}
use Rattle.local_docs.proofs.locals.Locals.new.Goals as goal

pub returns : goal.returns
returns c = record { empty = same_list _ _ c.new.ensures.entries }
