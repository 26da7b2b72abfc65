use Rattle.std.proofs.Common.{◌∙◌, sym}
use Rattle.revision_runs.proofs.Orders.{first_of_all}
use Rattle.revision_runs.proofs.keys.first.Goals as goal

pub returns-clause-some : goal.returns-clause-some
returns-clause-some g c =
    first_of_all g.K.Ord.cmp g.met.K.Ord.total c.args.keys.now.entries c.next.new.self (c.in-Some.key.now, c.in-Some.field-0-1.now) c.iter-all.ensures.ordered (sym c.iter-all.ensures.rest ∙ c.in-Some.ensures.steps)
