use Rattle.std.proofs.Common.{◌≡◌, rules, arith, true, false}
use Rattle.journal.proofs.Replays.{judged, last_epoch, next}
use Rattle.journal.proofs.Stops.{stopped_all}
use Rattle.journal.proofs.reading.replay_all.Goals as goal

pub entries-preserved : goal.entries-preserved
entries-preserved g c =
    let mid = g.R.Read.remaining c.entries.reader in
    let new = g.R.Read.remaining c.replay_next.new.reader in
    let was = c.entries.replayed in
    let more = c.replay_next.new.replayed in
    let yes : c.in_ok-replay_next.field-0 ≡ true = c.if-branch.true in
    let read = c.in_ok-replay_next.ensures.entry cc in
    let grown = c.in_ok-replay_next.ensures.taken cc in (
      λ base start is. next base start mid new was.database more.database was.place more.place was.taken more.taken c.replay_next.new.line.items (c.entries.invariant.0 base start is) read.0 read.1 grown,
      omega (arith, read.1.room, read.1.place_is),
    )

pub returns-in_err-replay_next-clause-judged : goal.returns-in_err-replay_next-clause-judged
returns-in_err-replay_next-clause-judged g c = λ base start is v at err. let a = c.in_err-replay_next.ensures.judged v at in let b = c.from_residual.ensures in
    let mid = g.R.Read.remaining c.entries.reader in
    let new = g.R.Read.remaining c.replay_next.new.reader in
    let refused = c.in_err-replay_next.ensures.judged v at (search rules) in
    judged base start mid new c.entries.replayed.database c.entries.replayed.place c.entries.replayed.taken (c.entries.invariant.0 base start is) c.args.synced c.replay_next.new.line.items v at refused.1 refused.2 refused.0

pub returns-in_err-replay_next-clause-too_large : goal.returns-in_err-replay_next-clause-too_large
returns-in_err-replay_next-clause-too_large g c = λ base start is err. let a = c.in_err-replay_next in let b = c.from_residual in
    let mid = g.R.Read.remaining c.entries.reader in
    let new = g.R.Read.remaining c.replay_next.new.reader in
    let large = c.in_err-replay_next.ensures.too_large (search rules) in
    last_epoch base start mid new c.entries.replayed.database c.entries.replayed.place c.entries.replayed.taken (c.entries.invariant.0 base start is) large.0 large.1

pub returns-clause-replayed : goal.returns-clause-replayed
returns-clause-replayed g c = λ base start is.
    let mid = g.R.Read.remaining c.entries.reader in
    let new = g.R.Read.remaining c.replay_next.new.reader in
    let was = c.entries.replayed in
    let more = c.replay_next.new.replayed in
    let no : c.in_ok-replay_next.field-0 ≡ false = search rules in
    let same = c.in_ok-replay_next.ensures.same cc in
    stopped_all c.args.synced base start mid new was.database more.database was.place more.place was.taken more.taken c.replay_next.new.line.items more.end
    (c.entries.invariant.0 base start is) (c.in_ok-replay_next.ensures.end cc) same.0 same.1 same.2
