use Rattle.std.proofs.Common.{ℕ, List, ◌++◌, Option, subst}
use Rattle.streams.specs.Writes.{Writes}
use Rattle.origin_policy.specs.Answers.{allowed_requests, preflight_text}
use Rattle.origin_policy.proofs.answers.write_preflight.Goals as goal

pub returns-clause-written : goal.returns-clause-written
unfolding preflight_text
returns-clause-written g c =
    let taken = g.W.Sink.taken in
    let after = taken c.write_three.new.writer in
    subst (λ (before : Option (List ℕ)). Writes before after c.write_three.result (preflight_text c.args.origin.now c.args.closes)) c.begins.ensures.taken
    (subst (λ (front : List ℕ). Writes (taken c.begins.new.self) after c.write_three.result (front ++ (c.args.origin.now ++ allowed_requests))) c.preflight_front-front.ensures
    c.write_three.ensures.written)
