use Rattle.std.proofs.Common.{◌++◌, ◌∙◌, List, length, ap}
use Rattle.model.specs.Command.{Id}
use Rattle.model.specs.Revision.{Rev}
use Rattle.replicator.specs.Stage.{Pass}
use Rattle.replicator.specs.Wanted.{absent_in}
use Rattle.replicator.proofs.Passes.{opened-pass, opened-passing}
use Rattle.replicator.proofs.pass.Pass.with_opened.Goals as goal

pub invariant_of-result : goal.invariant_of-result
invariant_of-result c =
    let p = c.self.inside in
    let asked = c.args.asked.now in
    let is_id = ap (λ (a : Id × List Rev). a.0) c.asked.view_is in
    let is_len = c.len.ensures ∙ c.asked.inside.revisions.ok.0 ∙ ap (λ (a : Id × List Rev). length a.1) c.asked.view_is in
    opened-passing c.args.self p.differences p.wanted.items p.asked p.given.items p.absent.items p.taken asked.0 asked.1 c.args.opened c.len.result c.add_opened.new.given.items c.add_opened.new.absent.items
    (ap (λ (s : Pass). s.asked) c.self.view_is) (ap (λ (s : Pass). s.differences) c.self.view_is) c.self.invariant c.requires.next c.requires.readable is_len
    c.in_ok-add_opened.ensures.given (c.in_ok-add_opened.ensures.absent ∙ ap (λ (i : Id). p.absent.items ++ absent_in i c.args.opened) is_id)

pub returns : goal.returns
returns c =
    let p = c.self.inside in
    let asked = c.args.asked.now in
    let is_id = ap (λ (a : Id × List Rev). a.0) c.asked.view_is in
    let is_len = c.len.ensures ∙ c.asked.inside.revisions.ok.0 ∙ ap (λ (a : Id × List Rev). length a.1) c.asked.view_is in
    record {
      with = opened-pass c.args.self p.ends p.page p.differences p.asked p.given.items p.absent.items p.taken p.marked asked.0 asked.1 c.args.opened c.len.result c.add_opened.new.given.items c.add_opened.new.absent.items
          c.self.view_is c.self.invariant.taken_within is_len
          c.in_ok-add_opened.ensures.given (c.in_ok-add_opened.ensures.absent ∙ ap (λ (i : Id). p.absent.items ++ absent_in i c.args.opened) is_id);
    }
