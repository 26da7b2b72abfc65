use Rattle.std.proofs.Common.{rules, List, ℕ, subst}
use Rattle.streams.specs.Streams.{Streams}
use Rattle.streams.specs.Ends.{Ends}
use Rattle.replay_cli.specs.Run.{NoMemory, ReadFailed}
use Rattle.replay_cli.specs.RunBase.{Line, NoneFollows, Instead}
use Rattle.replay_cli.proofs.Given.{instead}
use Rattle.replay_cli.proofs.next_base.run_base.Goals as goal

pub returns-in-Ok-Ok : goal.returns-in-Ok-Ok
returns-in-Ok-Ok g c = record {
  given = Line c.in-Ok-Ok.line.items;
  is_given = (rw c.in-Ok-Ok.field-0-is at c.in-Ok-Ok.ensures.found, c.in-Ok-Ok.ensures.end, c.in-Ok-Ok.ensures.failures);
  ends = subst (λ (t : List ℕ). Ends (g.W.Sink.taken c.args.writer.now) (g.W.Sink.taken c.end_with.new.writer) (g.W.Sink.failed_writes c.args.writer.now) (g.W.Sink.failed_writes c.end_with.new.writer) t 0 c.end_with.result) c.deref.ensures.value c.end_with.ensures;
}

pub returns-in-Ok-Err-NumbersTooLarge : goal.returns-in-Ok-Err-NumbersTooLarge
returns-in-Ok-Err-NumbersTooLarge g c =
    let arm = c.in-Ok-Err-NumbersTooLarge in
    let end = c.end_with-in-Ok-Err-NumbersTooLarge in
    record {
      given = NoneFollows;
      is_given = (rw (arm.field-0-is, arm.field-0-0-is) at arm.ensures.found, arm.ensures.end, arm.ensures.failures);
      ends = subst (λ (t : List ℕ). Ends (g.W.Sink.taken c.args.writer.now) (g.W.Sink.taken end.new.writer) (g.W.Sink.failed_writes c.args.writer.now) (g.W.Sink.failed_writes end.new.writer) t 6 end.result) c.as_bytes.ensures.value end.ensures;
    }

pub returns-in-Ok-Err-Judged : goal.returns-in-Ok-Err-Judged
returns-in-Ok-Err-Judged g c =
    let arm = c.in-Ok-Err-Judged in
    let told = c.tell.ensures in
    let before : Streams = record {
      left = g.R.Source.left c.args.reader.now;
      failed_reads = g.R.Source.failed_reads c.args.reader.now;
      taken = g.W.Sink.taken c.args.writer.now;
      failed_writes = g.W.Sink.failed_writes c.args.writer.now;
    } in
    let after : Streams = record {
      left = g.R.Source.left c.follow_input.new.reader;
      failed_reads = g.R.Source.failed_reads c.follow_input.new.reader;
      taken = g.W.Sink.taken c.tell.new.writer;
      failed_writes = g.W.Sink.failed_writes c.tell.new.writer;
    } in
    record {
      given = Instead told.0;
      is_given = instead c.args.is_raised before after arm.verdict told.0 told.1 (rw (arm.field-0-is, arm.field-0-0-is) at arm.ensures.found) arm.ensures.end arm.ensures.failures;
      ends = told.2;
    }

pub returns-in-Err-Memory : goal.returns-in-Err-Memory
returns-in-Err-Memory g c =
    let arm = c.in-Err-Memory in
    let end = c.end_with-in-Err-Memory in
    record {
      given = Instead NoMemory;
      is_given = (rw arm.field-0-is at arm.ensures.failures, tt);
      ends = subst (λ (t : List ℕ). Ends (g.W.Sink.taken c.args.writer.now) (g.W.Sink.taken end.new.writer) (g.W.Sink.failed_writes c.args.writer.now) (g.W.Sink.failed_writes end.new.writer) t 4 end.result) c.as_bytes-in-Err-Memory.ensures.value end.ensures;
    }

pub returns-in-Err-Failed : goal.returns-in-Err-Failed
returns-in-Err-Failed g c =
    let arm = c.in-Err-Failed in
    record {
      given = Instead ReadFailed;
      is_given = (rw arm.field-0-is at arm.ensures.failures, tt);
      ends = search rules;
    }
