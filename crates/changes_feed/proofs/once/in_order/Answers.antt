-- The members of the set are the revisions in order.
use Rattle.std.specs.Prelude.{◌≡◌, IfOk}
use Rattle.std.proofs.Common.{subst}
use Rattle.changes_feed.proofs.OrderLists.{keys-in_order}
use Rattle.changes_feed.proofs.once.in_order.Goals as goal

pub returns : goal.returns
returns c = subst (λ xs. IfOk c.members.result (λ v. v.items ≡ xs)) (keys-in_order c.args.revs.items c.in_ok-set.set c.in_ok-set.ensures) c.members.ensures
