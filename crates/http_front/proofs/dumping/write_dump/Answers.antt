use Rattle.std.proofs.Common.{◌∙◌, List, ℕ, inl, subst}
use Rattle.streams.specs.Ends.{Ends}
use Rattle.http_front.proofs.dumping.write_dump.Goals as goal

pub returns : goal.returns
returns g c =
    inl (subst (λ (t : List ℕ). Ends (g.W.Sink.taken c.args.writer.now) (g.W.Sink.taken c.end_with.new.writer) (g.W.Sink.failed_writes c.args.writer.now) (g.W.Sink.failed_writes c.end_with.new.writer) t c.args.status c.end_with.result) (c.deref.ensures.value ∙ c.in-Ok.ensures.text) c.end_with.ensures)
