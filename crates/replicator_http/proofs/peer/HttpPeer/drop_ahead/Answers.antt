use Rattle.std.proofs.Common.{◌∙◌, refl, arith}
use Rattle.replicator_http.proofs.Asking.{and_then, none_of, nothing, one_less}
use Rattle.replicator_http.proofs.peer.HttpPeer.drop_ahead.Goals as goal

pub loop-dropped-init : goal.loop-dropped-init
loop-dropped-init g c =
    let len = c.requires in
    record { happens = nothing c.args.self.now; count = omega arith; failures = refl }

pub loop-dropped-preserved : goal.loop-dropped-preserved
loop-dropped-preserved g c = record {
  happens = and_then c.args.self.now c.loop-dropped.self c.drop_next.new.self c.loop-dropped.invariant.happens c.drop_next.ensures.happens;
  count = one_less c.loop-dropped.self.ahead c.drop_next.new.self.ahead c.loop-dropped._dropped c.args.len
      c.drop_next.ensures.ahead c.loop-dropped.invariant.count c.loop-dropped-test.true;
  failures = c.drop_next.ensures.failures ∙ c.loop-dropped.invariant.failures;
}

pub returns-clause-happens : goal.returns-clause-happens
returns-clause-happens g c = c.loop-dropped.invariant.happens

pub returns-clause-none : goal.returns-clause-none
returns-clause-none g c = λ _. none_of c.loop-dropped.self.ahead (let count = c.loop-dropped.invariant.count in omega arith)
