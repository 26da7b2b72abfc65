use Rattle.std.proofs.Common.{◌∙◌, sym}
use Rattle.revision_runs.proofs.Orders.{first_listed, none_listed}
use Rattle.revision_runs.proofs.keys.first_from.Goals as goal

pub returns-in_default-clause-none : goal.returns-in_default-clause-none
returns-in_default-clause-none g c =
    λ none k found. none_listed g.K.Ord.cmp g.met.K.Ord.total c.args.from.now c.args.keys.now.entries (sym c.range_from-range.ensures.rest ∙ c.in_default.ensures.steps.0) k found

pub returns-clause-some : goal.returns-clause-some
returns-clause-some g c =
    first_listed g.K.Ord.cmp g.met.K.Ord.total c.args.from.now c.args.keys.now.entries c.next.new.self (c.in-Some.key.now, c.in-Some.field-0-1.now) c.range_from-range.ensures.ordered (sym c.range_from-range.ensures.rest ∙ c.in-Some.ensures.steps)
