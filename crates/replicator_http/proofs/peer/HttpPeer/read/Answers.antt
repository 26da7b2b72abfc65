use Rattle.std.proofs.Common.{string_bytes, subst, refl, Ok, Err}
use Rattle.replicator_http.specs.Asked.{Reads}
use Rattle.replicator_http.specs.Connection.{Connection}
use Rattle.replicator_http.proofs.Calls.{not_needed}
use Rattle.replicator_http.proofs.peer.HttpPeer.read.Goals as goal

pub returns-in-Ok-clause-reads : goal.returns-in-Ok-clause-reads
returns-in-Ok-clause-reads g c =
    let inside = c.self.inside in
    let new : Connection = record {
      left = g.R.Source.left c.read_response.new.reader;
      failed_reads = g.R.Source.failed_reads c.read_response.new.reader;
      taken = g.W.Sink.taken inside.writer;
      failed_writes = g.W.Sink.failed_writes inside.writer;
      come = c.read_response.new.self;
      ahead = inside.ahead;
      state = inside.state;
      failed_calls = inside.failures;
      terms = record { host = string_bytes inside.host; skips = inside.skips };
    } in
    subst (λ (k : Connection). Reads k new (Ok c.in-Ok.spans)) c.self.view_is (record {
      read = c.in-Ok.ensures.read;
      needed = not_needed g.R.Source.left _ _ _ _ c.in-Ok.ensures.needed;
      response = c.in-Ok.ensures.response;
      failed_reads = c.in-Ok.ensures.failures;
      taken = refl;
      failed_writes = refl;
      ahead = refl;
      state = refl;
      terms = refl;
    })

pub returns-in-Err-clause-reads : goal.returns-in-Err-clause-reads
returns-in-Err-clause-reads g c =
    let inside = c.self.inside in
    let new : Connection = record {
      left = g.R.Source.left c.read_response.new.reader;
      failed_reads = g.R.Source.failed_reads c.read_response.new.reader;
      taken = g.W.Sink.taken inside.writer;
      failed_writes = g.W.Sink.failed_writes inside.writer;
      come = c.read_response.new.self;
      ahead = inside.ahead;
      state = c.state_after-self-inside.result;
      failed_calls = inside.failures;
      terms = record { host = string_bytes inside.host; skips = inside.skips };
    } in
    subst (λ (k : Connection). Reads k new (Err c.in-Err.fault)) c.self.view_is (record {
      read = c.in-Err.ensures.read;
      needed = not_needed g.R.Source.left _ _ _ _ c.in-Err.ensures.needed;
      response = c.in-Err.ensures.response;
      failed_reads = c.in-Err.ensures.failures;
      taken = refl;
      failed_writes = refl;
      ahead = refl;
      state = c.state_after-self-inside.ensures;
      terms = refl;
    })
