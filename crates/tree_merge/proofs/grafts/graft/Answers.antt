use Rattle.std.proofs.Common.{◌∙◌, refl, sym, ap, subst, Some, Ok}
use Rattle.std.specs.Prelude.{unwrap_or, option_copied}
use Rattle.std.specs.Arc.{arc_value}
use Rattle.model.specs.Body.{IsBody}
use Rattle.model.specs.Map.{empty}
use Rattle.revision_tree.proofs.Grafts.{graft_agreed}
use Rattle.tree_merge.proofs.Grafted.{graft_refused, not_refused, memory_only, ok_only}
use Rattle.tree_merge.proofs.grafts.graft.Goals as goal

pub returns-then-not-agrees-clause-refused : goal.returns-then-not-agrees-clause-refused
returns-then-not-agrees-clause-refused c =
    let t = unwrap_or (option_copied c.args.tree) empty in
    (λ _. graft_refused c.args.path.now (arc_value c.args.body) c.args.deleted t (sym c.agrees.ensures ∙ c.if-not-agrees.true), λ _. refl)

pub grafted-requires-clause-body : goal.grafted-requires-clause-body
grafted-requires-clause-body c = subst IsBody c.deref.ensures c.recall_body.ensures

pub returns-in_err-grafted-clause-refused : goal.returns-in_err-grafted-clause-refused
returns-in_err-grafted-clause-refused c =
    let t = unwrap_or (option_copied c.args.tree) empty in
    (λ e. absurd (memory_only c.from_residual.result c.from_residual.ensures.1 e), λ e. absurd (not_refused c.args.path.now (arc_value c.args.body) c.args.deleted t (sym c.agrees.ensures ∙ c.if-not-agrees.false) e))

pub returns-clause-grafted : goal.returns-clause-grafted
returns-clause-grafted c =
    let t = unwrap_or (option_copied c.args.tree) empty in
    graft_agreed c.args.path.now (arc_value c.args.body) c.args.deleted t (sym c.agrees.ensures ∙ c.if-not-agrees.false) ∙ ap Some (sym c.in_ok-grafted.ensures)

pub returns-clause-refused : goal.returns-clause-refused
returns-clause-refused c =
    let t = unwrap_or (option_copied c.args.tree) empty in
    (λ e. absurd (ok_only (Ok c.in_ok-grafted.grafted) c.in_ok-grafted.grafted refl e), λ e. absurd (not_refused c.args.path.now (arc_value c.args.body) c.args.deleted t (sym c.agrees.ensures ∙ c.if-not-agrees.false) e))
