use Rattle.std.proofs.Common.{[], ◌∷◌, ◌++◌, sym, subst, map, length}
use Rattle.std.proofs.lemmas.Iterator.Consumers.{YieldsList-end, YieldsList-from_first, YieldsList-so_far, YieldsList-turn}
use Rattle.std.proofs.lemmas.List.{map-append}
use Rattle.revision_runs.specs.TreeRuns.{AreRuns}
use Rattle.revision_tree.specs.Rows.{nodes_of}
use Rattle.revision_tree.specs.Walk.{left_of}
use Rattle.revision_tree.proofs.Built.{next_step, runs_of_shell, shell}
use Rattle.revision_tree.proofs.noted.runs_of.Goals as goal

pub with_node-requires-clause-step : goal.with_node-requires-clause-step
with_node-requires-clause-step c =
    let ns = nodes_of c.args.rows.now in
    let ys = map (λ x. x.now) c.loop-node.yielded in
    let k = length c.loop-node.yielded in
    let n = c.in-Some.node.now in
    let far = YieldsList-so_far (YieldsList-from_first (λ x. x.now) left_of {s = c.into_iter-node-iterator.result} ns cc) c.loop-node.yielded _ c.loop-node.yielded_by in
    let at = YieldsList-turn (YieldsList-from_first (λ x. x.now) left_of {s = c.into_iter-node-iterator.result} ns cc) c.loop-node.yielded _ c.loop-node.yielded_by _ c.next.new.self c.in-Some.node c.in-Some.is c.next.ensures.steps in
    (shell ys, shell (ys ++ n ∷ []), c.loop-node.invariant, next_step ns ys k n c.requires.nodes far at.0 at.1)

pub loop-node-preserved : goal.loop-node-preserved
loop-node-preserved c =
    let ns = nodes_of c.args.rows.now in
    let ys = map (λ x. x.now) c.loop-node.yielded in
    let k = length c.loop-node.yielded in
    let n = c.in-Some.node.now in
    let far = YieldsList-so_far (YieldsList-from_first (λ x. x.now) left_of {s = c.into_iter-node-iterator.result} ns cc) c.loop-node.yielded _ c.loop-node.yielded_by in
    let at = YieldsList-turn (YieldsList-from_first (λ x. x.now) left_of {s = c.into_iter-node-iterator.result} ns cc) c.loop-node.yielded _ c.loop-node.yielded_by _ c.next.new.self c.in-Some.node c.in-Some.is c.next.ensures.steps in
    let after = c.in_ok-runs.ensures (shell ys) (shell (ys ++ n ∷ [])) c.loop-node.invariant (next_step ns ys k n c.requires.nodes far at.0 at.1) in
    subst (λ ms. AreRuns (shell ms) c.in_ok-runs.runs) (sym (map-append (λ x. x.now) c.loop-node.yielded (c.in-Some.node ∷ []))) after

pub returns : goal.returns
returns c =
    let ns = nodes_of c.args.rows.now in
    let t = YieldsList-end (YieldsList-from_first (λ x. x.now) left_of {s = c.into_iter-node-iterator.result} ns cc) c.loop-node.yielded _ c.loop-node.yielded_by _ c.next.new.self c.in-None.is c.next.ensures.steps in
    runs_of_shell ns c.loop-node.runs (subst (λ ms. AreRuns (shell ms) c.loop-node.runs) t.0 c.loop-node.invariant)
