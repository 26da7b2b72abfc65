use Rattle.std.proofs.Common.{arith, ap, sym, ◌∙◌, drop, length}
use Rattle.http_connection.specs.Kept.{Kept}
use Rattle.http_connection.proofs.Ranges.{drop-slice_range, length-slice_range}
use Rattle.http_connection.proofs.window.Window.take.Goals as goal

pub returns : goal.returns
returns c =
    let same = ap (λ (k : Kept). k.bytes) c.self.view_is in
    let size = length-slice_range c.self.inside.bytes.items c.self.inside.start c.self.inside.end c.self.invariant.0 (omega arith) in
    sym (drop-slice_range c.self.inside.bytes.items c.self.inside.start c.self.inside.end c.args.len (omega (arith, ap length same, size))) ∙ ap (drop c.args.len) same
