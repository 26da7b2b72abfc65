use Rattle.std.specs.Prelude.{◌≡◌, ◌+◌, Option, IfSome, true, refl}
use Rattle.std.proofs.Common.{◌∙◌, subst, sym}
use Rattle.std.proofs.lemmas.Bool.{true≢false}
use Rattle.model.specs.Revision.{Rev}
use Rattle.model.specs.Tree.{knows}
use Rattle.revision_tree.specs.declared.node.Node.{Node}
use Rattle.revision_tree.specs.Nodes.{tree_of}
use Rattle.revision_tree.proofs.Deciding.{at_some}
use Rattle.revision_tree.proofs.decide.has_its_parent.Goals as goal

pub returns-in_default : goal.returns-in_default
returns-in_default c =
    let n : Node = c.args.node.now in
    (λ e. subst (λ (o : Option Rev). IfSome o (λ p. (knows (tree_of c.args.nodes.now) p ≡ true) × (n.rev.generation ≡ p.generation + 1))) (sym c.in_default.is) tt, λ h. refl)

pub returns-then-not-is_next : goal.returns-then-not-is_next
returns-then-not-is_next c =
    let n : Node = c.args.node.now in (
      λ e. absurd (true≢false (sym e)),
      λ h.
          let up = at_some n.parent (λ p. (knows (tree_of c.args.nodes.now) p ≡ true) × (n.rev.generation ≡ p.generation + 1)) c.in-Some.parent h c.in-Some.is in
          absurd (true≢false (sym (c.is_next.ensures.1 up.1) ∙ c.if-not-is_next.true)),
    )

pub returns : goal.returns
returns c =
    let n : Node = c.args.node.now in (
      λ e. subst (λ (o : Option Rev). IfSome o (λ p. (knows (tree_of c.args.nodes.now) p ≡ true) × (n.rev.generation ≡ p.generation + 1))) (sym c.in-Some.is) (sym c.is_among.ensures ∙ e, c.is_next.ensures.0 c.if-not-is_next.false),
      λ h. c.is_among.ensures ∙ (at_some n.parent (λ p. (knows (tree_of c.args.nodes.now) p ≡ true) × (n.rev.generation ≡ p.generation + 1)) c.in-Some.parent h c.in-Some.is).0,
    )
