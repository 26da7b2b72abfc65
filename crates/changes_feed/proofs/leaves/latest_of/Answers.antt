-- A leaf is chosen by the path of its revision.
use Rattle.std.specs.Prelude.{IfOk, ℕ, map, filter, ◌≡◌, ◌==◌, ◌∷◌, []}
use Rattle.std.proofs.Common.{ap, sym, subst, ◌∙◌}
use Rattle.model.specs.Revision.{Rev}
use Rattle.model.specs.Tree.{leaves, revs_of}
use Rattle.changes_feed.specs.Latest.{first_above}
use Rattle.changes_feed.proofs.LeafLists.{latest_of-leaf}
use Rattle.changes_feed.proofs.Claimed.{chosen, latest_one}
use Rattle.changes_feed.proofs.leaves.latest_of.Goals as goal

pub returns : goal.returns
returns c =
    let t = c.args.tree.now in
    let r = c.args.rev in
    subst (λ xs. IfOk c.claimed_by.result (λ v. v.items ≡ xs))
    (ap (λ ls. map (λ (l : Rev × ℕ). l.0) (filter (λ (l : Rev × ℕ). l.1 == 0) ls)) (c.deref.ensures.value ∙ c.in_ok-claimed_leaves.ensures)
    ∙ chosen (first_above (r ∷ []) t) 0 (revs_of (leaves t)) ∙ latest_one t r)
    c.claimed_by.ensures

pub returns-then-is_leaf : goal.returns-then-is_leaf
returns-then-is_leaf c = subst (λ xs. IfOk c.from_slice.result (λ v. v.items ≡ xs))
    (sym (latest_of-leaf c.args.tree.now c.oldest-recalled.ensures.tree.forest c.args.rev (sym c.is_leaf.ensures ∙ c.if-is_leaf.true)))
    c.from_slice.ensures.items
