use Rattle.std.proofs.Common.{◌≡◌, ◌∙◌, true, ap, sym}
use Rattle.model.specs.Tree.{is_at, knows}
use Rattle.revision_tree.proofs.Grafting.{member_known, member_linked, member_new, member_there}
use Rattle.revision_tree.proofs.members.with_next.Goals as goal

pub extended-requires : goal.extended-requires
extended-requires c =
    let n = c.requires.next in
    (n.0, n.1, n.2, member_new c.args.tree.now n.0 n.1 c.args.child c.args.parent c.args.runs n.2 n.3 (sym c.knows.ensures ∙ c.if-not-knows.true))

pub returns-then-not-knows : goal.returns-then-not-knows
returns-then-not-knows c = λ t u b n part.
    c.extended.ensures t u b (member_new c.args.tree.now t u c.args.child c.args.parent c.args.runs b n (sym c.knows.ensures ∙ c.if-not-knows.true))

pub returns-then-has_parent : goal.returns-then-has_parent
returns-then-has_parent c = λ t u b n part.
    member_there c.args.tree.now t u c.args.child c.args.parent c.args.runs b n (sym c.knows.ensures ∙ c.if-not-knows.false)
    (ap (λ o. is_at o c.args.parent) (sym c.parent_of.ensures) ∙ sym c.has_parent.ensures ∙ c.if-has_parent.true)

pub linked-requires-clause-linked : goal.linked-requires-clause-linked
linked-requires-clause-linked c =
    let n = c.requires.next in
    let there : knows c.args.tree.now c.args.parent ≡ true = sym c.knows.ensures ∙ c.if-not-knows.false in
    let off = ap (λ o. is_at o c.args.parent) (sym c.parent_of.ensures) ∙ sym c.has_parent.ensures ∙ c.if-has_parent.false in
    (n.0, n.1, n.2, member_linked c.args.tree.now n.0 n.1 c.args.child c.args.parent c.args.runs n.2 n.3 there off, member_known c.args.tree.now n.0 n.1 c.args.child c.args.parent c.args.runs n.2 n.3 there, n.4)

pub returns : goal.returns
returns c = λ t u b n part.
    let there : knows c.args.tree.now c.args.parent ≡ true = sym c.knows.ensures ∙ c.if-not-knows.false in
    let off = ap (λ o. is_at o c.args.parent) (sym c.parent_of.ensures) ∙ sym c.has_parent.ensures ∙ c.if-has_parent.false in
    c.linked.ensures t u b (member_linked c.args.tree.now t u c.args.child c.args.parent c.args.runs b n there off) (member_known c.args.tree.now t u c.args.child c.args.parent c.args.runs b n there) part
