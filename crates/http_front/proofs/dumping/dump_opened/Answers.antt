use Rattle.std.proofs.Common.{ℕ, inl, inr, refl, subst}
use Rattle.http_front.specs.Dumping.{WritesDump}
use Rattle.http_front.proofs.Servers.{same_streams, where_none}
use Rattle.http_front.proofs.dumping.dump_opened.Goals as goal

pub returns : goal.returns
returns g c =
    inl (record {
      ended = _;
      end = _;
      served = c.in-Some.ensures.served;
      written = subst (λ (n : ℕ). WritesDump (g.W.Sink.taken c.args.writer.now) (g.W.Sink.taken c.write_dump.new.writer) (g.W.Sink.failed_writes c.args.writer.now) (g.W.Sink.failed_writes c.write_dump.new.writer) (record { base = g.J.Naming.base; entries = c.in-Some.closed.history }) n c.write_dump.result) c.exit_status.ensures c.write_dump.ensures;
    })

pub returns-in_default : goal.returns-in_default
returns-in_default g c =
    inr (record {
      same = same_streams g.R.Source.left g.R.Source.failed_reads g.W.Sink.taken g.W.Sink.failed_writes _ _ _ _
          (where_none _ c.serve_one.ensures.same_reader c.in_default.is) refl;
      tells = refl;
    })
