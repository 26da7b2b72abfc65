use Rattle.std.proofs.Common.{◌≡◌, ◌∙◌, Some, Option, ap, sym, subst}
use Rattle.model.specs.Map.{from_list, get, put}
use Rattle.model.specs.Revision.{revs}
use Rattle.revision_runs.specs.Keys.{foot_cmp, hung_cmp, deep_cmp, IsMoved}
use Rattle.revision_runs.specs.Runs.{RunMap, AreFound, foot_of, hung_of, deep_of}
use Rattle.revision_runs.specs.declared.foot.Foot.{Foot}
use Rattle.revision_runs.specs.declared.hung.Hung.{Hung}
use Rattle.revision_runs.specs.declared.deep.Deep.{Deep}
use Rattle.revision_runs.proofs.Found.{from_list-put, found_moved}
use Rattle.revision_runs.proofs.runs.Runs.with_other.Goals as goal

pub invariant_of-result : goal.invariant_of-result
invariant_of-result c =
    let a = c.self.inside in
    let fs = c.in_ok-moved.field-0.entries in
    let hs = c.in_ok-moved-2.field-0.entries in
    let ds = c.in_ok-moved-3.field-0.entries in
    let some = ap (λ (m : RunMap). get m c.args.top) c.self.view_is ∙ c.requires in
    let view = ap (from_list {O = revs}) c.in_ok-into_with.ensures.entries ∙ from_list-put revs c.args.top c.args.run a.by_top.entries in
    let feet : IsMoved foot_cmp (foot_of c.args.top c.args.old) (foot_of c.args.top c.args.run) a.feet.entries fs =
    subst (λ (k : Option Foot). IsMoved foot_cmp k (foot_of c.args.top c.args.run) a.feet.entries fs) (sym c.foot.ensures)
    (subst (λ (k : Option Foot). IsMoved foot_cmp (Some c.foot.result) k a.feet.entries fs) (sym c.foot-2.ensures) c.in_ok-moved.ensures) in
    let hung : IsMoved hung_cmp (hung_of c.args.top c.args.old) (hung_of c.args.top c.args.run) a.hung.entries hs =
    subst (λ (k : Option Hung). IsMoved hung_cmp k (hung_of c.args.top c.args.run) a.hung.entries hs) c.hung_key.ensures
    (subst (λ (k : Option Hung). IsMoved hung_cmp c.hung_key.result k a.hung.entries hs) c.hung_key-2.ensures c.in_ok-moved-2.ensures) in
    let deep : IsMoved deep_cmp (deep_of c.args.top c.args.old) (deep_of c.args.top c.args.run) a.deep.entries ds =
    subst (λ (k : Option Deep). IsMoved deep_cmp k (deep_of c.args.top c.args.run) a.deep.entries ds) c.deep_key.ensures
    (subst (λ (k : Option Deep). IsMoved deep_cmp c.deep_key.result k a.deep.entries ds) c.deep_key-2.ensures c.in_ok-moved-3.ensures) in
    subst (λ (m : RunMap). AreFound m fs hs ds) (sym view)
    (found_moved (from_list a.by_top.entries) c.args.top c.args.old c.args.run some a.feet.entries fs a.hung.entries hs a.deep.entries ds c.self.invariant feet hung deep)

pub returns : goal.returns
returns c =
    let a = c.self.inside in
    ap (from_list {O = revs}) c.in_ok-into_with.ensures.entries ∙ from_list-put revs c.args.top c.args.run a.by_top.entries ∙ ap (λ (m : RunMap). put m c.args.top c.args.run) c.self.view_is
