use Rattle.std.proofs.Common.{◌∙◌, ap}
use Rattle.model.specs.Command.{names}
use Rattle.model.specs.Local.{Local}
use Rattle.model.specs.Map.{Map}
use Rattle.local_docs.proofs.locals.Locals.iter.Goals as goal

pub returns-clause-rest : goal.returns-clause-rest
returns-clause-rest c = c.iter.ensures.rest ∙ ap (λ (m : Map names Local). m.list) c.self.view_is
