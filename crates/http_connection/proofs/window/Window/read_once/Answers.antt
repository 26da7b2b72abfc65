use Rattle.std.proofs.Common.{ap, ◌∙◌, ◌++◌, drop, take, List, ℕ}
use Rattle.http_connection.specs.Kept.{Kept}
use Rattle.http_connection.proofs.Ranges.{slice_range-more, length-take-drop}
use Rattle.http_connection.proofs.window.Window.read_once.Goals as goal

pub returns-clause-piece : goal.returns-clause-piece
returns-clause-piece g c =
    let same = ap (λ (k : Kept). k.bytes) c.self.view_is in
    let read = c.read_behind.new.bytes.items in
    let piece = take c.in_ok-n.n (drop c.self.inside.end read) in
    let grows = slice_range-more c.self.inside.bytes.items read c.self.inside.start c.self.inside.end c.in_ok-n.n c.self.invariant.0 c.in_ok-n.ensures.front in (
      piece,
      length-take-drop read c.self.inside.end c.in_ok-n.n c.in_ok-n.ensures.within,
      grows ∙ ap (λ (t : List ℕ). t ++ piece) same,
      c.in_ok-n.ensures.piece,
    )
