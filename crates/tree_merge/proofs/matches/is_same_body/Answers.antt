use Rattle.std.proofs.Common.{◌∙◌, sym}
use Rattle.std.specs.Prelude.{option_map}
use Rattle.std.specs.Arc.{arc_value}
use Rattle.std.specs.Option.{option_eq}
use Rattle.model.specs.Body.{same_body}
use Rattle.tree_merge.proofs.Compared.{same_bodies}
use Rattle.tree_merge.proofs.matches.is_same_body.Goals as goal

pub returns : goal.returns
returns c =
    same_bodies (arc_value c.in-Some.one) (arc_value c.in-Some-other.other) c.is_same.result
    (λ e. sym c.deref.ensures ∙ c.is_same.ensures.0 e ∙ c.deref-2.ensures, λ e. c.is_same.ensures.1 (c.deref.ensures ∙ e ∙ sym c.deref-2.ensures))
    ∙ (λ i. option_eq same_body (option_map arc_value (sym c.in-Some.is i)) (option_map arc_value (sym c.in-Some-other.is i)))
