use Rattle.replicator.proofs.Passes.{taken-pass}
use Rattle.replicator.proofs.pass.Pass.with_taken.Goals as goal

pub returns : goal.returns
returns c =
    let p = c.self.inside in
    taken-pass c.args.self p.ends p.page p.differences p.asked p.given.items p.absent.items p.taken p.marked c.args.len c.self.view_is c.self.invariant.taken_within
