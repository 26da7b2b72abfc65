use Rattle.std.proofs.Common.{◌∙◌, ap, is_some, sym}
use Rattle.std.specs.Prelude.{not}
use Rattle.std.specs.Arc.{arc_value}
use Rattle.tree_merge.proofs.Compared.{kept_in_one, some_of}
use Rattle.tree_merge.proofs.matches.keeps_alone.Goals as goal

pub returns-then-is_some : goal.returns-then-is_some
returns-then-is_some c = λ e.
    kept_in_one c.args.one.now c.args.other.now c.args.rev
    (sym (ap is_some c.body_of.ensures) ∙ some_of (λ b. arc_value b.now) c.body_of.result ∙ sym c.is_some.ensures ∙ c.if-is_some.true)
    (sym (ap is_some c.body_of-then-is_some.ensures) ∙ some_of (λ b. arc_value b.now) c.body_of-then-is_some.result ∙ c.is_none.ensures ∙ ap not e)
