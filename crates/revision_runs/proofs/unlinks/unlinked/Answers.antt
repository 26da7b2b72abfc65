use Rattle.std.proofs.Common.{◌≡◌, ◌∙◌, Some, None, ap, refl, sym, subst, inl, inr, IsTrue}
use Rattle.std.proofs.lemmas.Option.{same_Some}
use Rattle.model.specs.Map.{get, put, without}
use Rattle.model.specs.Revision.{Rev}
use Rattle.model.specs.Tree.{Tree, IsForest}
use Rattle.model.proofs.TreeLaws.{knows_child}
use Rattle.revision_runs.specs.declared.run.Run.{Run}
use Rattle.revision_runs.specs.Runs.{RunMap, EndsAt, HangsUnder}
use Rattle.revision_runs.specs.TreeRuns.{AreRuns, AreRunsBut, IsOneChild, IsOnlyChild}
use Rattle.revision_runs.specs.Changes.{AreBefore, IsJoin, IsUnlinked}
use Rattle.revision_runs.proofs.Freeing.{joins, some_ends, some_hangs, still_forked}
use Rattle.revision_runs.proofs.unlinks.unlinked.Goals as goal

pub run_of-run-requires : goal.run_of-run-requires
run_of-run-requires c =
    let b = c.requires.2 in
    let off = c.requires.3 in
    b.runs.all c.args.child (knows_child c.requires.0 c.args.child c.args.fork off.parent, inr (c.args.fork, c.requires.4))

pub nearest_of-nearest-requires : goal.nearest_of-nearest-requires
nearest_of-nearest-requires c =
    let b = c.requires.2 in
    let lone : Run = record { fork = None; bottom = c.run_of-run.result.bottom; low = c.run_of-run.result.low } in
    let x = some_hangs c.requires.0 c.requires.1 c.args.child c.args.fork b.before c.requires.3 c.requires.4 c.args.runs b.runs lone refl in
    (x.0, subst (λ (m : RunMap). HangsUnder m c.args.fork x.0) (sym c.in_ok-freed.ensures) x.1)

pub run_of-left-requires : goal.run_of-left-requires
run_of-left-requires c = (c.nearest_of-nearest.ensures.run, c.nearest_of-nearest.ensures.is)

pub joined-requires : goal.joined-requires
joined-requires c =
    let b = c.requires.2 in
    let lone : Run = record { fork = None; bottom = c.run_of-run.result.bottom; low = c.run_of-run.result.low } in
    let n = c.nearest_of-nearest.ensures in
    let hung : HangsUnder (put c.args.runs c.args.child lone) c.args.fork c.nearest_of-nearest.result = subst (λ (m : RunMap). HangsUnder m c.args.fork c.nearest_of-nearest.result) c.in_ok-freed.ensures (record { run = n.run; is = n.is; fork = n.fork }) in
    let at_left : get (put c.args.runs c.args.child lone) c.nearest_of-nearest.result ≡ Some c.run_of-left.result = ap (λ (m : RunMap). get m c.nearest_of-nearest.result) (sym c.in_ok-freed.ensures) ∙ c.run_of-left.ensures in
    let same : c.in_ok-others.others ≡ without (put c.args.runs c.args.child lone) c.nearest_of-nearest.result = c.in_ok-others.ensures ∙ ap (λ (m : RunMap). without m c.nearest_of-nearest.result) c.in_ok-freed.ensures in (
      c.requires.1,
      b.after,
      subst (λ (m : RunMap). IsJoin c.requires.1 m c.args.fork c.run_of-left.result) (sym same) (record {
        ends = some_ends c.requires.0 c.requires.1 c.args.child c.args.fork b.before c.requires.3 c.requires.4 c.args.runs b.runs lone refl c.nearest_of-nearest.result hung;
        each = joins c.requires.0 c.requires.1 c.args.child c.args.fork b.before c.requires.3 c.requires.4 c.args.runs b.runs lone refl c.nearest_of-nearest.result hung c.run_of-run.result c.run_of-run.ensures refl refl c.run_of-left.result at_left (λ d x. c.nearest_under.ensures.none c.in_default.is d (subst (λ (m : RunMap). HangsUnder m c.args.fork d) (sym same) x));
      }),
    )

pub returns-in_default : goal.returns-in_default
returns-in_default c = λ t u b off two.
    let lone : Run = record { fork = None; bottom = c.run_of-run.result.bottom; low = c.run_of-run.result.low } in
    let n = c.nearest_of-nearest.ensures in
    let hung : HangsUnder (put c.args.runs c.args.child lone) c.args.fork c.nearest_of-nearest.result = subst (λ (m : RunMap). HangsUnder m c.args.fork c.nearest_of-nearest.result) c.in_ok-freed.ensures (record { run = n.run; is = n.is; fork = n.fork }) in
    let at_left : get (put c.args.runs c.args.child lone) c.nearest_of-nearest.result ≡ Some c.run_of-left.result = ap (λ (m : RunMap). get m c.nearest_of-nearest.result) (sym c.in_ok-freed.ensures) ∙ c.run_of-left.ensures in
    let same : c.in_ok-others.others ≡ without (put c.args.runs c.args.child lone) c.nearest_of-nearest.result = c.in_ok-others.ensures ∙ ap (λ (m : RunMap). without m c.nearest_of-nearest.result) c.in_ok-freed.ensures in
    c.joined.ensures u b.after (subst (λ (m : RunMap). IsJoin u m c.args.fork c.run_of-left.result) (sym same) (record {
      ends = some_ends t u c.args.child c.args.fork b.before off two c.args.runs b.runs lone refl c.nearest_of-nearest.result hung;
      each = joins t u c.args.child c.args.fork b.before off two c.args.runs b.runs lone refl c.nearest_of-nearest.result hung c.run_of-run.result c.run_of-run.ensures refl refl c.run_of-left.result at_left (λ d x. c.nearest_under.ensures.none c.in_default.is d (subst (λ (m : RunMap). HangsUnder m c.args.fork d) (sym same) x));
    }))

pub settled_with-requires : goal.settled_with-requires
settled_with-requires c =
    let b = c.requires.2 in
    let lone : Run = record { fork = None; bottom = c.run_of-run.result.bottom; low = c.run_of-run.result.low } in
    let n = c.nearest_of-nearest.ensures in
    let hung : HangsUnder (put c.args.runs c.args.child lone) c.args.fork c.nearest_of-nearest.result = subst (λ (m : RunMap). HangsUnder m c.args.fork c.nearest_of-nearest.result) c.in_ok-freed.ensures (record { run = n.run; is = n.is; fork = n.fork }) in
    let at_left : get (put c.args.runs c.args.child lone) c.nearest_of-nearest.result ≡ Some c.run_of-left.result = ap (λ (m : RunMap). get m c.nearest_of-nearest.result) (sym c.in_ok-freed.ensures) ∙ c.run_of-left.ensures in
    let same : c.in_ok-others.others ≡ without (put c.args.runs c.args.child lone) c.nearest_of-nearest.result = c.in_ok-others.ensures ∙ ap (λ (m : RunMap). without m c.nearest_of-nearest.result) c.in_ok-freed.ensures in (
      c.requires.1,
      b.after,
      subst (λ (m : RunMap). AreRunsBut c.requires.1 (Some c.args.fork) (put m c.nearest_of-nearest.result c.run_of-left.result)) (sym same)
          (still_forked c.requires.0 c.requires.1 c.args.child c.args.fork b.before c.requires.3 c.requires.4 c.args.runs b.runs lone refl c.nearest_of-nearest.result hung c.run_of-run.result c.run_of-run.ensures refl refl c.run_of-left.result at_left c.in-Some._other (subst (λ (m : RunMap). HangsUnder m c.args.fork c.in-Some._other) same (record { run = c.in-Some.ensures.some.run; is = c.in-Some.ensures.some.is; fork = c.in-Some.ensures.some.fork }))),
    )

pub returns : goal.returns
returns c = λ t u b off two.
    let lone : Run = record { fork = None; bottom = c.run_of-run.result.bottom; low = c.run_of-run.result.low } in
    let n = c.nearest_of-nearest.ensures in
    let hung : HangsUnder (put c.args.runs c.args.child lone) c.args.fork c.nearest_of-nearest.result = subst (λ (m : RunMap). HangsUnder m c.args.fork c.nearest_of-nearest.result) c.in_ok-freed.ensures (record { run = n.run; is = n.is; fork = n.fork }) in
    let at_left : get (put c.args.runs c.args.child lone) c.nearest_of-nearest.result ≡ Some c.run_of-left.result = ap (λ (m : RunMap). get m c.nearest_of-nearest.result) (sym c.in_ok-freed.ensures) ∙ c.run_of-left.ensures in
    let same : c.in_ok-others.others ≡ without (put c.args.runs c.args.child lone) c.nearest_of-nearest.result = c.in_ok-others.ensures ∙ ap (λ (m : RunMap). without m c.nearest_of-nearest.result) c.in_ok-freed.ensures in
    c.settled_with.ensures u b.after (subst (λ (m : RunMap). AreRunsBut u (Some c.args.fork) (put m c.nearest_of-nearest.result c.run_of-left.result)) (sym same)
    (still_forked t u c.args.child c.args.fork b.before off two c.args.runs b.runs lone refl c.nearest_of-nearest.result hung c.run_of-run.result c.run_of-run.ensures refl refl c.run_of-left.result at_left c.in-Some._other (subst (λ (m : RunMap). HangsUnder m c.args.fork c.in-Some._other) same (record { run = c.in-Some.ensures.some.run; is = c.in-Some.ensures.some.is; fork = c.in-Some.ensures.some.fork }))))
