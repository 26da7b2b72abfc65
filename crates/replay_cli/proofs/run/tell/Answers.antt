use Rattle.std.proofs.Common.{inl, refl, subst, ◌∙◌, List, ℕ}
use Rattle.streams.specs.Ends.{Ends}
use Rattle.replay_cli.specs.Run.{Judged, verdict_status}
use Rattle.replay_cli.proofs.run.tell.Goals as goal

pub returns : goal.returns
returns g c =
    let text = c.as_bytes-2.ensures.value ∙ c.in-Ok.ensures.ok in (
      Judged c.args.verdict,
      inl refl,
      subst (λ (t : List ℕ). Ends (g.W.Sink.taken c.args.writer.now) (g.W.Sink.taken c.end_with-2.new.writer) (g.W.Sink.failed_writes c.args.writer.now) (g.W.Sink.failed_writes c.end_with-2.new.writer) t (verdict_status c.args.verdict) c.end_with-2.result) text
          (subst (λ (n : ℕ). Ends (g.W.Sink.taken c.args.writer.now) (g.W.Sink.taken c.end_with-2.new.writer) (g.W.Sink.failed_writes c.args.writer.now) (g.W.Sink.failed_writes c.end_with-2.new.writer) c.as_bytes-2.result.now n c.end_with-2.result) c.exit_status.ensures c.end_with-2.ensures),
    )
