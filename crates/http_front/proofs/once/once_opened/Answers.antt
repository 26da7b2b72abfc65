use Rattle.std.proofs.Common.{inl, inr, refl}
use Rattle.http_front.proofs.Servers.{same_streams, where_none}
use Rattle.http_front.proofs.once.once_opened.Goals as goal

pub returns : goal.returns
returns g c = inl (record { ended = _; end = _; served = c.in-Some.ensures.served; tells = c.exit_status.ensures })

pub returns-in_default : goal.returns-in_default
returns-in_default g c =
    let opened = c.serve_one.ensures in
    inr (record {
      same = same_streams g.R.Source.left g.R.Source.failed_reads g.W.Sink.taken g.W.Sink.failed_writes _ _ _ _
          (where_none _ opened.same_reader c.in_default.is) (where_none _ opened.same_writer c.in_default.is);
      tells = refl;
    })
