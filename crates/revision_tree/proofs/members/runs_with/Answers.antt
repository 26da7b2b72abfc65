use Rattle.std.proofs.Common.{sym, subst, arith}
use Rattle.std.proofs.lemmas.List.{take_all}
use Rattle.model.specs.TreeChange.{grafted}
use Rattle.revision_runs.specs.Changes.{IsPartOf}
use Rattle.revision_runs.specs.TreeRuns.{AreRuns}
use Rattle.revision_tree.proofs.Grafting.{split_near}
use Rattle.revision_tree.proofs.Steps.{one_of, step_before, step_next, step_part, two_of}
use Rattle.revision_tree.proofs.members.runs_with.Goals as goal

pub with_next-requires-clause-next : goal.with_next-requires-clause-next
with_next-requires-clause-next c =
    let t = c.args.tree.now in
    let f = c.requires.tree in
    let path = c.args.path.now in
    let i = c.loop-place.place in
    let x = c.index-path-place.result in
    let p = c.index-path-place-in-loop-place.result in
    let body = c.requires.grown.0 in
    let deleted = c.requires.grown.1 in
    let e = c.requires.grown.2 in
    let s = split_near path i x p (omega (arith, c.loop-place.auto.place)) (omega (arith, c.loop-place-test.true)) c.index-path-place.is c.index-path-place-in-loop-place.is in
    let one = one_of t f body deleted path c.requires.path c.requires.agrees i x p s in (
      one,
      two_of t f body deleted path c.requires.path c.requires.agrees i x p s,
      step_before t f body deleted path c.requires.path c.requires.agrees i x p s c.loop-place.grown (c.loop-place.invariant body deleted e),
      step_next t f body deleted path c.requires.path c.requires.agrees i x p s,
      subst (IsPartOf one) (sym e) (step_part t f body deleted path c.requires.path c.requires.agrees i x p s),
    )

pub loop-place-preserved : goal.loop-place-preserved
loop-place-preserved c = λ body deleted e.
    let t = c.args.tree.now in
    let f = c.requires.tree in
    let path = c.args.path.now in
    let i = c.loop-place.place in
    let x = c.index-path-place.result in
    let p = c.index-path-place-in-loop-place.result in
    let s = split_near path i x p (omega (arith, c.loop-place.auto.place)) (omega (arith, c.loop-place-test.true)) c.index-path-place.is c.index-path-place-in-loop-place.is in
    let one = one_of t f body deleted path c.requires.path c.requires.agrees i x p s in
    c.in_ok-grown-2.ensures one (two_of t f body deleted path c.requires.path c.requires.agrees i x p s)
    (step_before t f body deleted path c.requires.path c.requires.agrees i x p s c.loop-place.grown (c.loop-place.invariant body deleted e))
    (step_next t f body deleted path c.requires.path c.requires.agrees i x p s)
    (subst (IsPartOf one) (sym e) (step_part t f body deleted path c.requires.path c.requires.agrees i x p s))

pub returns : goal.returns
returns c = λ body deleted e.
    let path = c.args.path.now in
    subst (λ ps. AreRuns (grafted ps body deleted c.args.tree.now) c.loop-place.grown) (take_all c.loop-place.place path (omega (arith, c.loop-place-test.false))) (c.loop-place.invariant body deleted e)
