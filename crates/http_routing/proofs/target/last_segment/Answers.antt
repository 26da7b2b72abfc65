use Rattle.std.proofs.Common.{arith, ◌∙◌}
use Rattle.http_routing.proofs.Segments.{last_segment-drop, last_segment-after}
use Rattle.http_routing.proofs.target.last_segment.Goals as goal

pub returns-in-Some : goal.returns-in-Some
returns-in-Some c =
    let split = c.in-Some.ensures.cases in
    split.4 ∙ last_segment-after c.args.path.now split.0 split.1 split.2.1 (omega (arith, split.7)) split.2.0

pub returns-in-None : goal.returns-in-None
returns-in-None c = last_segment-drop c.args.path.now 0 (omega arith) c.in-None.ensures.cases (λ some. absurd (omega arith))
