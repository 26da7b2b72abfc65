use Rattle.std.proofs.Common.{sym, ◌∙◌}
use Rattle.model.specs.Revision.{same_rev-equal}
use Rattle.commands.proofs.same.RevIdSame.is_same.Goals as goal

pub returns : goal.returns
returns c =
    let equal = same_rev-equal c.args.self.now c.args.other.now in
    record { same = (λ t. equal.0 (sym c.eq.ensures ∙ t), λ e. c.eq.ensures ∙ equal.1 e) }
