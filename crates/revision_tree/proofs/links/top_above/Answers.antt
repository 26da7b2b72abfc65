use Rattle.std.proofs.Common.{◌≡◌, ◌∙◌, suc, Option, Some, None, true, false, is_some, refl, sym, ap, subst}
use Rattle.std.specs.Prelude.{not}
use Rattle.std.proofs.lemmas.Bool.{true≢false}
use Rattle.std.proofs.lemmas.Option.{same_Some}
use Rattle.model.specs.Map.{get}
use Rattle.model.specs.Tree.{knows}
use Rattle.revision_runs.specs.TreeRuns.{IsWay}
use Rattle.revision_runs.specs.declared.run.Run.{Run}
use Rattle.revision_tree.specs.Nodes.{tree_of}
use Rattle.revision_tree.specs.Rows.{nodes_of}
use Rattle.revision_tree.proofs.Inside.{known_up, step_from, way_more}
use Rattle.revision_tree.proofs.links.top_above.Goals as goal

none_of : (o : Option Run) → is_some o ≡ false → o ≡ None
none_of None h = refl
none_of (Some x) h = absurd (true≢false h)

pub loop-top-preserved : goal.loop-top-preserved
loop-top-preserved c = λ t f h k part.
    let all = tree_of (nodes_of c.args.rows.now) in
    let runs = c.args.runs.now in
    let top = c.loop-top.top in
    let w = c.loop-top.invariant t f h k part in
    let none : get runs top ≡ None = sym c.get.ensures ∙ none_of c.get.result (c.is_none.ensures ∙ ap not c.loop-top-test.true) in
    let s = step_from t f runs h all part top w.2 none in
    let same : s.0 ≡ c.parent_at-top.result = same_Some s.0 c.parent_at-top.result (sym s.2 ∙ c.parent_at-top.ensures) in
    (suc w.0, subst (λ q. IsWay t (suc w.0) c.args.rev q) same (way_more t w.0 c.args.rev top s.0 w.1 s.1), subst (λ q. knows t q ≡ true) same (known_up t f runs h s.0 top s.1))
