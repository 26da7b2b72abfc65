use Rattle.std.proofs.Common.{◌≡◌, ◌∙◌, Some, ap, refl, sym, subst}
use Rattle.std.proofs.lemmas.Option.{same_Some}
use Rattle.model.specs.Tree.{Tree, IsForest}
use Rattle.revision_runs.specs.declared.run.Run.{Run}
use Rattle.revision_runs.specs.Runs.{RunMap, EndsAt, HangsUnder}
use Rattle.revision_runs.specs.TreeRuns.{AreRunsBut}
use Rattle.revision_runs.proofs.Climbing.{hole_ends, step_ends, step_next, step_older}
use Rattle.revision_runs.proofs.climb.step.Goals as goal

pub nearest_of-nearest-requires : goal.nearest_of-nearest-requires
nearest_of-nearest-requires c = c.requires.2.fork c.args.fork refl

pub run_of-child-requires : goal.run_of-child-requires
run_of-child-requires c = (c.nearest_of-nearest.ensures.run, c.nearest_of-nearest.ensures.is)

pub top_of-top-requires : goal.top_of-top-requires
top_of-top-requires c = hole_ends c.requires.0 c.requires.1 (Some c.args.fork) c.args.runs c.requires.2 c.args.fork refl

pub run_of-run-requires : goal.run_of-run-requires
run_of-run-requires c = (c.top_of-top.ensures.run, c.top_of-top.ensures.is)

pub returns-then-run-child-clause-runs : goal.returns-then-run-child-clause-runs
returns-then-run-child-clause-runs c = λ t f h.
    let n = c.nearest_of-nearest.ensures in
    let e = c.top_of-top.ensures in
    let run = same_Some c.run_of-run.result e.run (sym c.run_of-run.ensures ∙ e.is) in
    let child = same_Some c.run_of-child.result n.run (sym c.run_of-child.ensures ∙ n.is) in
    step_ends t f c.args.fork c.args.runs h c.nearest_of-nearest.result n c.top_of-top.result c.run_of-run.result c.run_of-run.ensures
    (ap (λ (r : Run). r.bottom) run ∙ e.bottom) (c.if-run-child.true ∙ ap (λ (r : Run). r.low) child)

pub returns-clause-runs : goal.returns-clause-runs
returns-clause-runs c = λ t f h.
    let n = c.nearest_of-nearest.ensures in
    let e = c.top_of-top.ensures in
    let run = same_Some c.run_of-run.result e.run (sym c.run_of-run.ensures ∙ e.is) in
    let child = same_Some c.run_of-child.result n.run (sym c.run_of-child.ensures ∙ n.is) in
    subst (λ (m : RunMap). AreRunsBut t c.run_of-run.result.fork m) (sym c.in_ok-after.ensures)
    (step_next t f c.args.fork c.args.runs h c.nearest_of-nearest.result n c.top_of-top.result c.run_of-run.result c.run_of-run.ensures
    (ap (λ (r : Run). r.bottom) run ∙ e.bottom) (record { fork = c.run_of-run.result.fork; bottom = c.run_of-run.result.bottom; low = c.run_of-child.result.low }) refl refl (ap (λ (r : Run). r.low) child))

pub returns-clause-older : goal.returns-clause-older
returns-clause-older c =
    let n = c.nearest_of-nearest.ensures in
    let e = c.top_of-top.ensures in
    let run = same_Some c.run_of-run.result e.run (sym c.run_of-run.ensures ∙ e.is) in
    let child = same_Some c.run_of-child.result n.run (sym c.run_of-child.ensures ∙ n.is) in
    step_older c.requires.0 c.requires.1 c.args.fork c.args.runs c.requires.2 c.nearest_of-nearest.result n c.top_of-top.result c.run_of-run.result c.run_of-run.ensures
    (ap (λ (r : Run). r.bottom) run ∙ e.bottom) (record { fork = c.run_of-run.result.fork; bottom = c.run_of-run.result.bottom; low = c.run_of-child.result.low }) refl refl (ap (λ (r : Run). r.low) child)
