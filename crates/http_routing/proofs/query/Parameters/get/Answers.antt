use Rattle.std.proofs.Common.{ap, ◌∙◌}
use Rattle.http_routing.specs.Pairs.{value_in}
use Rattle.http_routing.specs.Query.{parameter}
use Rattle.http_routing.proofs.Pairs.{value_in-parameter}
use Rattle.http_routing.proofs.query.Parameters.get.Goals as goal

pub returns : goal.returns
returns c =
    c.find_value.ensures
    ∙ ap (value_in c.args.name.now) c.deref.ensures.value
    ∙ value_in-parameter c.args.name.now c.self.inside.pairs.items
    ∙ ap (parameter c.args.name.now) c.self.view_is
