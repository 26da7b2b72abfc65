use Rattle.std.proofs.Common.{rules, arith}
use Rattle.journal.proofs.Replays.{database_after}
use Rattle.journal.proofs.Restores.{ended_by, exhausted, raised_too_far, restored_all_by, restored_by, same_replayed}
use Rattle.journal.proofs.reading.restore.Goals as goal

pub returns-in_err-replay_all-clause-judged : goal.returns-in_err-replay_all-clause-judged
returns-in_err-replay_all-clause-judged g c = λ v at err.
    let begun = c.in_ok-begun.begun in
    let start = g.R.Read.remaining c.args.reader.now in
    let r = c.in_ok-replayed.replayed in
    let taken = c.in_ok-replayed.ensures.taken in
    let size = c.len.ensures in
    let first = same_replayed begun.base start (g.R.Read.remaining c.read_first.new.reader) _ r.database 0 r.place _ r.taken c.in_ok-begun.ensures.begun c.in_ok-replayed.ensures.database c.in_ok-replayed.ensures.place (omega (arith, taken, size)) in
    (c.in_err-replay_all.ensures.judged begun.base start first v at (search rules)).0

pub returns-in_err-replay_all-clause-judged_all : goal.returns-in_err-replay_all-clause-judged_all
returns-in_err-replay_all-clause-judged_all g c = λ v at err.
    let begun = c.in_ok-begun.begun in
    let start = g.R.Read.remaining c.args.reader.now in
    let r = c.in_ok-replayed.replayed in
    let taken = c.in_ok-replayed.ensures.taken in
    let size = c.len.ensures in
    let first = same_replayed begun.base start (g.R.Read.remaining c.read_first.new.reader) _ r.database 0 r.place _ r.taken c.in_ok-begun.ensures.begun c.in_ok-replayed.ensures.database c.in_ok-replayed.ensures.place (omega (arith, taken, size)) in
    (c.in_err-replay_all.ensures.judged begun.base start first v at (search rules)).1

pub returns-in_err-replay_all-clause-too_large : goal.returns-in_err-replay_all-clause-too_large
returns-in_err-replay_all-clause-too_large g c = λ err.
    let begun = c.in_ok-begun.begun in
    let start = g.R.Read.remaining c.args.reader.now in
    let r = c.in_ok-replayed.replayed in
    let taken = c.in_ok-replayed.ensures.taken in
    let size = c.len.ensures in
    let first = same_replayed begun.base start (g.R.Read.remaining c.read_first.new.reader) _ r.database 0 r.place _ r.taken c.in_ok-begun.ensures.begun c.in_ok-replayed.ensures.database c.in_ok-replayed.ensures.place (omega (arith, taken, size)) in
    exhausted start (g.R.Read.remaining c.replay_all.new.reader) c.args.synced c.args.raise (c.in_err-replay_all.ensures.too_large begun.base start first (search rules))

pub finish-requires-clause-database : goal.finish-requires-clause-database
finish-requires-clause-database g c =
    let begun = c.in_ok-begun.begun in
    let start = g.R.Read.remaining c.args.reader.now in
    let r = c.in_ok-replayed.replayed in
    let taken = c.in_ok-replayed.ensures.taken in
    let size = c.len.ensures in
    let first = same_replayed begun.base start (g.R.Read.remaining c.read_first.new.reader) _ r.database 0 r.place _ r.taken c.in_ok-begun.ensures.begun c.in_ok-replayed.ensures.database c.in_ok-replayed.ensures.place (omega (arith, taken, size)) in
    let all = c.in_ok-replay_all.ensures.replayed begun.base start first in
    let end = c.replay_all.new.replayed in
    database_after begun.base start all.middle end.database end.place end.taken all.replayed

pub returns : goal.returns
returns g c =
    let begun = c.in_ok-begun.begun in
    let start = g.R.Read.remaining c.args.reader.now in
    let new = g.R.Read.remaining c.replay_all.new.reader in
    let r = c.in_ok-replayed.replayed in
    let taken = c.in_ok-replayed.ensures.taken in
    let size = c.len.ensures in
    let first = same_replayed begun.base start (g.R.Read.remaining c.read_first.new.reader) _ r.database 0 r.place _ r.taken c.in_ok-begun.ensures.begun c.in_ok-replayed.ensures.database c.in_ok-replayed.ensures.place (omega (arith, taken, size)) in
    let all = c.in_ok-replay_all.ensures.replayed begun.base start first in
    let end = c.replay_all.new.replayed in
    record {
      restored = restored_by c.finish.result c.args.synced begun.base start new end.database end.place end.taken end.end all c.args.raise (c.finish.ensures.places, c.finish.ensures.taken, c.finish.ensures.end, c.finish.ensures.begun);
      restored_all = restored_all_by c.finish.result c.args.synced begun.base start new end.database end.place end.taken end.end all c.args.raise (c.finish.ensures.places, c.finish.ensures.taken, c.finish.ensures.end, c.finish.ensures.begun);
      end = ended_by c.finish.result c.args.synced begun.base start new end.database end.place end.taken end.end all c.args.raise (c.finish.ensures.places, c.finish.ensures.taken, c.finish.ensures.end, c.finish.ensures.begun);
      judged = λ v at is. absurd (c.finish.ensures.judged v at is);
      judged_all = λ v at is. absurd (c.finish.ensures.judged v at is);
      too_large = λ is. let large = c.finish.ensures.too_large is in
          raised_too_far c.args.synced begun.base start new end.database end.place end.taken end.end all c.args.raise large.0 large.1 large.2;
    }
