use Rattle.std.proofs.Common.{ap, ◌∙◌, ◌++◌, arith, drop, take, List, ℕ}
use Rattle.std.proofs.Math.Seq.{take-add}
use Rattle.std.proofs.lemmas.Grind.{common_steps}
use Rattle.http_client.proofs.incoming.Incoming.read_once.Goals as goal

pub returns-clause-piece : goal.returns-clause-piece
returns-clause-piece g c =
    let n = c.in-Ok-read_behind.n in
    let end = c.self.inside.end in
    let read = c.read_behind.new.bytes.items in
    let piece : List ℕ = take n (drop end read) in
    let within = c.in-Ok-read_behind.ensures.within in
    let front = c.in-Ok-read_behind.ensures.front ∙ c.in-Ok.ensures.front ∙ c.self.view_is in (
      piece,
      grind (arith, common_steps, within),
      take-add end n read ∙ ap (λ (t : List ℕ). t ++ piece) front,
      c.in-Ok-read_behind.ensures.piece,
    )
