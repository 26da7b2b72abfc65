use Rattle.std.proofs.Common.{rules, ◌∙◌, refl, ap, sym, subst}
use Rattle.model.specs.History.{Extends}
use Rattle.updater_state.specs.Callers.{risen}
use Rattle.sessions.specs.Known.{Known}
use Rattle.sessions.specs.Calls.{Looks}
use Rattle.sessions.specs.Compactions.{Leaves, chronicle_of}
use Rattle.sessions.proofs.Looking.{looks_self, only_looks_more, leaves_tried, of_copy-leaves, passed_with, risen_more}
use Rattle.sessions.proofs.compacting.Session+Core+R+J+J+G.compact_with.Goals as goal

pub loop-try-init : goal.loop-try-init
loop-try-init g c = record {
  looked = looks_self g.J.Naming.base c.args.self.now c.place-recalled.ensures.legal c.place-recalled.ensures.own;
  known = c.requires.known;
  tried = refl;
  sliced = c.in_ok-slice_all.ensures.sliced;
  follows = subst (Extends (chronicle_of g.J.Naming.base c.args.self.now)) (sym c.in_ok-slice_all.ensures.seen) c.requires.follows;
}

pub loop-try-preserved : goal.loop-try-preserved
loop-try-preserved g c =
    let base = g.J.Naming.base in
    let before = c.loop-try.self in
    let new = c.attempt.new.self in
    let looks : Looks base (record before { tried = risen before.tried 1 }) new = search rules in
    record {
      looked = only_looks_more base c.args.self.now before new c.loop-try.invariant.looked looks;
      known = ap (λ (k : Known). k.lost) looks.same ∙ c.loop-try.invariant.known;
      tried = ap (λ (k : Known). k.tried) looks.same ∙ risen_more c.args.self.now.tried c.loop-try._try before.tried c.loop-try.invariant.tried;
      sliced = search rules;
      follows = search rules;
    }

pub returns-in_err-slice_all-clause-fault : goal.returns-in_err-slice_all-clause-fault
returns-in_err-slice_all-clause-fault g c =
    let base = g.J.Naming.base in
    let config = g.J.Opening.config in
    let old = c.args.self.now in
    let e = c.in_err-slice_all.field-0.0 in
    let here = looks_self base old c.place-recalled.ensures.legal c.place-recalled.ensures.own in
    passed_with (λ f. Leaves base config f old old) c.from_residual.result e c.from_residual.ensures.1 (leaves_tried base config e old old old here (of_copy-leaves base config e old old c.in_err-slice_all.ensures.fault here))

pub returns-in_err-receipt-clause-fault : goal.returns-in_err-receipt-clause-fault
returns-in_err-receipt-clause-fault g c =
    let config = g.J.Opening.config in
    let old = c.args.self.now in
    let new = c.attempt.new.self in
    let e = c.in_err-receipt.field-0.0 in
    passed_with (λ f. Leaves g.J.Naming.base config f old new) c.from_residual-in_err-receipt.result e c.from_residual-in_err-receipt.ensures.1 (leaves_tried g.J.Naming.base config e old c.loop-try.self new c.loop-try.invariant.looked c.in_err-receipt.ensures.fault)
