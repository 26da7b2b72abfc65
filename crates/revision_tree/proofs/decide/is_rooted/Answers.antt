use Rattle.std.proofs.Common.{◌∙◌, sym}
use Rattle.std.proofs.lemmas.Bool.{true≢false}
use Rattle.revision_tree.proofs.decide.is_rooted.Goals as goal

pub returns-then-not-has_its_parent : goal.returns-then-not-has_its_parent
returns-then-not-has_its_parent c = (
  λ e. absurd (true≢false (sym e)),
  λ h. absurd (true≢false (sym (c.has_its_parent.ensures.1 h.parent) ∙ c.if-not-has_its_parent.true)),
)

pub returns : goal.returns
returns c = (
  λ e. record { parent = c.has_its_parent.ensures.0 c.if-not-has_its_parent.false; body = sym c.has_its_body.ensures ∙ e },
  λ h. c.has_its_body.ensures ∙ h.body,
)
