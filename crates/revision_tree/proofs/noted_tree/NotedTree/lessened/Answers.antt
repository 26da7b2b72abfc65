use Rattle.std.proofs.Common.{◌≡◌, ◌∙◌, ◌<◌, ap, subst}
use Rattle.std.proofs.lemmas.Result.{IfOk-weaker}
use Rattle.model.specs.Revision.{Rev}
use Rattle.model.specs.Tree.{Tree, IsForest, IsInRange}
use Rattle.model.specs.TreeChange.{restrict, stem}
use Rattle.revision_runs.specs.Changes.{orphaned}
use Rattle.revision_runs.specs.Runs.{RunMap, HangsUnder, IsNearestUnder}
use Rattle.revision_runs.specs.TreeRuns.{AreRuns}
use Rattle.revision_tree.specs.Stems.{weight}
use Rattle.revision_tree.specs.Trimmed.{is_other}
use Rattle.revision_tree.proofs.Lessening.{drop_less, drop_stem, hung_less, hung_stem, hung_two, link_less, link_stem, link_two, root_child, root_none}
use Rattle.revision_tree.proofs.noted_tree.NotedTree.lessened.Goals as goal

hanging : (runs : RunMap) (f top : Rev) → IsNearestUnder runs f top → HangsUnder runs f top
hanging runs f top n = record { run = n.run; is = n.is; fork = n.fork }

pub unlinked-requires : goal.unlinked-requires
unlinked-requires c =
    let runs = c.self.inside.noted.runs in
    let f = subst IsForest c.self.view_is c.self.invariant.rows.nodes.tree.forest in
    let range = subst IsInRange c.self.view_is c.self.invariant.rows.nodes.range in
    let are = subst (λ (t : Tree). AreRuns t runs) c.self.view_is c.self.invariant.noted.runs in
    link_two c.args.self f range runs are c.args.limit c.requires.limit c.args.top c.requires.due c.in-Some.fork c.run_at-run.result c.run_at-run.ensures c.in-Some.is

pub returns-in-Some-clause-stem : goal.returns-in-Some-clause-stem
returns-in-Some-clause-stem c =
    let runs = c.self.inside.noted.runs in
    let f = subst IsForest c.self.view_is c.self.invariant.rows.nodes.tree.forest in
    let range = subst IsInRange c.self.view_is c.self.invariant.rows.nodes.range in
    let are = subst (λ (t : Tree). AreRuns t runs) c.self.view_is c.self.invariant.noted.runs in
    IfOk-weaker c.unlinked.result (λ t. t ≡ orphaned c.args.top c.args.self) (λ t. stem c.args.limit t ≡ stem c.args.limit c.args.self)
    (λ t e. ap (stem c.args.limit) e ∙ link_stem c.args.self f range runs are c.args.limit c.requires.limit c.args.top c.requires.due c.in-Some.fork c.run_at-run.result c.run_at-run.ensures c.in-Some.is) c.unlinked.ensures

pub returns-in-Some-clause-less : goal.returns-in-Some-clause-less
returns-in-Some-clause-less c =
    let runs = c.self.inside.noted.runs in
    let f = subst IsForest c.self.view_is c.self.invariant.rows.nodes.tree.forest in
    let range = subst IsInRange c.self.view_is c.self.invariant.rows.nodes.range in
    let are = subst (λ (t : Tree). AreRuns t runs) c.self.view_is c.self.invariant.noted.runs in
    let less = link_less c.args.self f range runs are c.args.limit c.requires.limit c.args.top c.requires.due c.in-Some.fork c.run_at-run.result c.run_at-run.ensures c.in-Some.is in
    IfOk-weaker c.unlinked.result (λ t. t ≡ orphaned c.args.top c.args.self) (λ t. weight t < weight c.args.self) (λ t e. rw e less) c.unlinked.ensures

pub unlinked-requires-in-Some-nearest_under : goal.unlinked-requires-in-Some-nearest_under
unlinked-requires-in-Some-nearest_under c =
    let runs = c.self.inside.noted.runs in
    let child = c.in-Some-nearest_under.child in
    let f = subst IsForest c.self.view_is c.self.invariant.rows.nodes.tree.forest in
    let range = subst IsInRange c.self.view_is c.self.invariant.rows.nodes.range in
    let are = subst (λ (t : Tree). AreRuns t runs) c.self.view_is c.self.invariant.noted.runs in
    hung_two c.args.self f range runs are c.args.limit c.requires.limit c.args.top c.requires.due child (hanging runs c.args.top child c.in-Some-nearest_under.ensures.some)

pub returns-in-Some-nearest_under-clause-stem : goal.returns-in-Some-nearest_under-clause-stem
returns-in-Some-nearest_under-clause-stem c =
    let runs = c.self.inside.noted.runs in
    let child = c.in-Some-nearest_under.child in
    let f = subst IsForest c.self.view_is c.self.invariant.rows.nodes.tree.forest in
    let range = subst IsInRange c.self.view_is c.self.invariant.rows.nodes.range in
    let are = subst (λ (t : Tree). AreRuns t runs) c.self.view_is c.self.invariant.noted.runs in
    IfOk-weaker c.unlinked-in-Some-nearest_under.result (λ t. t ≡ orphaned child c.args.self) (λ t. stem c.args.limit t ≡ stem c.args.limit c.args.self)
    (λ t e. ap (stem c.args.limit) e ∙ hung_stem c.args.self f range runs are c.args.limit c.requires.limit c.args.top c.requires.due child (hanging runs c.args.top child c.in-Some-nearest_under.ensures.some)) c.unlinked-in-Some-nearest_under.ensures

pub returns-in-Some-nearest_under-clause-less : goal.returns-in-Some-nearest_under-clause-less
returns-in-Some-nearest_under-clause-less c =
    let runs = c.self.inside.noted.runs in
    let child = c.in-Some-nearest_under.child in
    let f = subst IsForest c.self.view_is c.self.invariant.rows.nodes.tree.forest in
    let range = subst IsInRange c.self.view_is c.self.invariant.rows.nodes.range in
    let are = subst (λ (t : Tree). AreRuns t runs) c.self.view_is c.self.invariant.noted.runs in
    let less = hung_less c.args.self f range runs are c.args.limit c.requires.limit c.args.top c.requires.due child (hanging runs c.args.top child c.in-Some-nearest_under.ensures.some) in
    IfOk-weaker c.unlinked-in-Some-nearest_under.result (λ t. t ≡ orphaned child c.args.self) (λ t. weight t < weight c.args.self) (λ t e. rw e less) c.unlinked-in-Some-nearest_under.ensures

pub dropped-requires-clause-root : goal.dropped-requires-clause-root
dropped-requires-clause-root c =
    let runs = c.self.inside.noted.runs in
    let f = subst IsForest c.self.view_is c.self.invariant.rows.nodes.tree.forest in
    let range = subst IsInRange c.self.view_is c.self.invariant.rows.nodes.range in
    let are = subst (λ (t : Tree). AreRuns t runs) c.self.view_is c.self.invariant.noted.runs in
    root_none c.args.self f range runs are c.args.limit c.requires.limit c.args.top c.requires.due c.run_at-run.result c.run_at-run.ensures c.in_default.is

pub dropped-requires-clause-child : goal.dropped-requires-clause-child
dropped-requires-clause-child c =
    let runs = c.self.inside.noted.runs in
    let f = subst IsForest c.self.view_is c.self.invariant.rows.nodes.tree.forest in
    let range = subst IsInRange c.self.view_is c.self.invariant.rows.nodes.range in
    let are = subst (λ (t : Tree). AreRuns t runs) c.self.view_is c.self.invariant.noted.runs in
    root_child c.args.self f range runs are c.args.limit c.requires.limit c.args.top c.requires.due c.run_at-run.result c.run_at-run.ensures c.in_default.is (c.nearest_under.ensures.none c.in_default-nearest_under.is)

pub returns-clause-stem : goal.returns-clause-stem
returns-clause-stem c =
    let runs = c.self.inside.noted.runs in
    let f = subst IsForest c.self.view_is c.self.invariant.rows.nodes.tree.forest in
    let range = subst IsInRange c.self.view_is c.self.invariant.rows.nodes.range in
    let are = subst (λ (t : Tree). AreRuns t runs) c.self.view_is c.self.invariant.noted.runs in
    IfOk-weaker c.dropped.result (λ t. t ≡ restrict (is_other c.args.top) c.args.self) (λ t. stem c.args.limit t ≡ stem c.args.limit c.args.self)
    (λ t e. ap (stem c.args.limit) e ∙ drop_stem c.args.self f range runs are c.args.limit c.requires.limit c.args.top c.requires.due) c.dropped.ensures

pub returns-clause-less : goal.returns-clause-less
returns-clause-less c =
    let runs = c.self.inside.noted.runs in
    let f = subst IsForest c.self.view_is c.self.invariant.rows.nodes.tree.forest in
    let range = subst IsInRange c.self.view_is c.self.invariant.rows.nodes.range in
    let are = subst (λ (t : Tree). AreRuns t runs) c.self.view_is c.self.invariant.noted.runs in
    let less = drop_less c.args.self f range runs are c.args.limit c.requires.limit c.args.top c.requires.due in
    IfOk-weaker c.dropped.result (λ t. t ≡ restrict (is_other c.args.top) c.args.self) (λ t. weight t < weight c.args.self) (λ t e. rw e less) c.dropped.ensures
