use Rattle.std.proofs.Common.{◌∙◌, sym}
use Rattle.tree_merge.proofs.Compared.{known_in_one, other_of}
use Rattle.tree_merge.proofs.matches.knows_alone.Goals as goal

pub returns-then-knows : goal.returns-then-knows
returns-then-knows c = λ e.
    known_in_one c.args.one.now c.args.other.now c.args.rev (sym c.knows.ensures ∙ c.if-knows.true)
    (sym c.knows-then-knows.ensures ∙ other_of c.knows-then-knows.result (sym e))
