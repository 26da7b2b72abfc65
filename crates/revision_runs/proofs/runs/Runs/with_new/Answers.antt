use Rattle.std.proofs.Common.{◌∙◌, ap, sym, subst}
use Rattle.model.specs.Map.{from_list, get, put}
use Rattle.model.specs.Revision.{revs}
use Rattle.revision_runs.specs.Keys.{foot_cmp, hung_cmp, deep_cmp, entered}
use Rattle.revision_runs.specs.Runs.{RunMap, AreFound, IsIndex, foot_of, hung_of, deep_of}
use Rattle.revision_runs.proofs.Found.{from_list-put, found_with}
use Rattle.revision_runs.proofs.runs.Runs.with_new.Goals as goal

pub invariant_of-result : goal.invariant_of-result
invariant_of-result c =
    let a = c.self.inside in
    let fs = c.in_ok-entered.field-0.entries in
    let hs = c.in_ok-entered-2.field-0.entries in
    let ds = c.in_ok-entered-3.field-0.entries in
    let none = ap (λ (m : RunMap). get m c.args.top) c.self.view_is ∙ c.requires in
    let view = ap (from_list {O = revs}) c.in_ok-into_with.ensures.entries ∙ from_list-put revs c.args.top c.args.run a.by_top.entries in
    let feet = c.in_ok-entered.ensures ∙ ap (λ k. entered foot_cmp k a.feet.entries) (sym c.foot.ensures) in
    let hung = c.in_ok-entered-2.ensures ∙ ap (λ k. entered hung_cmp k a.hung.entries) c.hung_key.ensures in
    let deep = c.in_ok-entered-3.ensures ∙ ap (λ k. entered deep_cmp k a.deep.entries) c.deep_key.ensures in
    let found = found_with (from_list a.by_top.entries) c.args.top c.args.run a.feet.entries a.hung.entries a.deep.entries c.self.invariant none in
    subst (λ (m : RunMap). AreFound m fs hs ds) (sym view) (record {
      feet = subst (IsIndex foot_cmp foot_of (put (from_list a.by_top.entries) c.args.top c.args.run)) (sym feet) found.feet;
      hung = subst (IsIndex hung_cmp hung_of (put (from_list a.by_top.entries) c.args.top c.args.run)) (sym hung) found.hung;
      deep = subst (IsIndex deep_cmp deep_of (put (from_list a.by_top.entries) c.args.top c.args.run)) (sym deep) found.deep;
    })

pub returns : goal.returns
returns c =
    let a = c.self.inside in
    ap (from_list {O = revs}) c.in_ok-into_with.ensures.entries ∙ from_list-put revs c.args.top c.args.run a.by_top.entries ∙ ap (λ (m : RunMap). put m c.args.top c.args.run) c.self.view_is
