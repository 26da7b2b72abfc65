use Rattle.std.proofs.Common.{◌≡◌, ◌∙◌, List, ap, get_or, subst, sym}
use Rattle.model.specs.Command.{Id}
use Rattle.model.specs.Revision.{Rev}
use Rattle.replicator.specs.Stage.{Pass}
use Rattle.replicator.specs.Wanted.{next_revs}
use Rattle.replicator.proofs.Passes.{asks-next, rest-is}
use Rattle.replicator.proofs.pass.Pass.next_asked.Goals as goal

pub returns : goal.returns
returns c =
    let p = c.self.inside in
    let w = c.index-rest-0.result in
    let id = c.in_ok-id.id in
    let rest = rest-is c.deref.result.now p.wanted.items p.asked c.deref.ensures.value in
    record {
      next = asks-next c.args.self.now p.asked p.differences p.wanted.items id c.in_ok-revisions.revisions.items w
          (ap (λ (s : Pass). s.asked) c.self.view_is) (ap (λ (s : Pass). s.differences) c.self.view_is) c.self.invariant.wanted_is c.requires
          (subst (λ (ws : List (Id × Rev)). w ≡ get_or ws 0 w) rest c.index-rest-0.is)
          (c.in_ok-id.ensures.same ∙ ap (λ (v : Id × Rev). v.0) (sym c.index-rest-0.is))
          (c.in_ok-revisions.ensures ∙ ap (λ (ws : List (Id × Rev)). next_revs id ws) rest);
    }
