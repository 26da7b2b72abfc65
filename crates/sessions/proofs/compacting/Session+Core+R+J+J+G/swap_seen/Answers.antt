use Rattle.model.specs.Command.{Compact}
use Rattle.sessions.specs.Compactions.{LeavesTry}
use Rattle.sessions.proofs.Looking.{looks_self, of_copy-leaves, passed_with}
use Rattle.sessions.proofs.Settling.{entered_after, lost_after, settled_tried, behind_after, receipt_tried, fault_tried}
use Rattle.sessions.proofs.compacting.Session+Core+R+J+J+G.swap_seen.Goals as goal

pub returns-in_err-catch_up_all-clause-fault : goal.returns-in_err-catch_up_all-clause-fault
returns-in_err-catch_up_all-clause-fault g c =
    let config = g.J.Opening.config in
    let old = c.args.self.now in
    let e = c.in_err-catch_up_all.field-0.0 in
    passed_with (λ f. LeavesTry g.J.Naming.base config f old old) c.from_residual.result e c.from_residual.ensures.1 (of_copy-leaves g.J.Naming.base config e old old c.in_err-catch_up_all.ensures.fault (looks_self g.J.Naming.base old c.place-recalled.ensures.legal c.place-recalled.ensures.own))

pub settle_swap-requires-clause-entered : goal.settle_swap-requires-clause-entered
settle_swap-requires-clause-entered g c = entered_after c.args.self.now c.try_swap-swapped.new.self c.try_swap-swapped.result (c.place-recalled.ensures.receipts c.requires.known) c.try_swap-swapped.ensures.counted

pub settle_swap-requires-clause-lost : goal.settle_swap-requires-clause-lost
settle_swap-requires-clause-lost g c = lost_after c.args.self.now c.try_swap-swapped.new.self c.try_swap-swapped.result c.requires.known c.try_swap-swapped.ensures.counted

pub returns-clause-receipt : goal.returns-clause-receipt
returns-clause-receipt g c =
    let old = c.args.self.now in
    let w = c.try_swap-swapped.new.self in
    receipt_tried g.J.Naming.base old w c.settle_swap.new.self w.tried Compact c.settle_swap.result
    (settled_tried old w c.try_swap-swapped.result c.requires.known (c.place-recalled.ensures.receipts c.requires.known) c.try_swap-swapped.ensures.counted) c.settle_swap.ensures.receipt

pub returns-clause-behind : goal.returns-clause-behind
returns-clause-behind g c =
    behind_after c.args.self.now c.try_swap-swapped.new.self c.settle_swap.new.self c.try_swap-swapped.result c.settle_swap.result c.settle_swap.ensures.answers c.requires.known (c.place-recalled.ensures.receipts c.requires.known)
    c.try_swap-swapped.ensures.counted c.settle_swap.ensures.behind

pub returns-clause-fault : goal.returns-clause-fault
returns-clause-fault g c =
    let old = c.args.self.now in
    let w = c.try_swap-swapped.new.self in
    fault_tried g.J.Naming.base g.J.Opening.config old w c.settle_swap.new.self w.tried c.settle_swap.result
    (settled_tried old w c.try_swap-swapped.result c.requires.known (c.place-recalled.ensures.receipts c.requires.known) c.try_swap-swapped.ensures.counted) c.settle_swap.ensures.fault
