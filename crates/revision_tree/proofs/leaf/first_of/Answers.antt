use Rattle.std.proofs.Common.{◌∙◌, sym}
use Rattle.revision_tree.proofs.Winning.{noted_first, noted_some}
use Rattle.revision_tree.proofs.leaf.first_of.Goals as goal

pub unreachable-requires : goal.unreachable-requires
unreachable-requires c =
    noted_some c.requires.0 c.args.noted.now.leaves.entries c.iter-leaves.ensures.ordered c.requires.2 c.requires.1 (sym c.iter-leaves.ensures.rest ∙ c.in_default.ensures.steps.0)

pub returns : goal.returns
returns c = λ t h.
    noted_first t c.args.noted.now.leaves.entries c.iter-leaves.ensures.ordered h (c.in-Some.rank.now, c.in-Some.field-0-1.now) c.next.new.self (sym c.iter-leaves.ensures.rest ∙ c.in-Some.ensures.steps)
