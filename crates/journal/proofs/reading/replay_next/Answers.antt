use Rattle.std.proofs.Common.{◌≡◌, true, rules, sym, subst, List, ℕ}
use Rattle.journal.specs.Replaying.{CanBeNext, IsDamagedAt, IsWhole}
use Rattle.journal.proofs.Stops.{stopped_torn}
use Rattle.journal.proofs.reading.replay_next.Goals as goal

pub returns-clause-end : goal.returns-clause-end
returns-clause-end g c = λ no.
    let was = c.args.replayed.now in
    let line = c.next_line.new.line.items in
    let yes : c.in_ok-next_line.field-0 ≡ true = search rules in
    let whole : IsWhole line = rw yes at c.in_ok-next_line.ensures.kind in
    let torn = c.take_line.ensures.torn no in
    stopped_torn c.args.synced (g.R.Read.remaining c.args.reader.now) (g.R.Read.remaining c.next_line.new.reader) was.database was.place was.taken line c.take_line.new.replayed.end
    c.in_ok-next_line.ensures.consumed whole torn.0 torn.1 (λ can. torn.2 (subst (λ (l : List ℕ). CanBeNext l was.database was.place) (sym c.deref-2.ensures.value) can))

pub returns-clause-judged : goal.returns-clause-judged
returns-clause-judged g c = λ v at is.
    let was = c.args.replayed.now in
    let line = c.next_line.new.line.items in
    let yes : c.in_ok-next_line.field-0 ≡ true = search rules in
    let whole : IsWhole line = rw yes at c.in_ok-next_line.ensures.kind in (
      c.in_ok-next_line.ensures.consumed,
      whole,
      subst (λ (l : List ℕ). IsDamagedAt c.args.synced l was.database was.place was.taken v at) c.deref-2.ensures.value (c.take_line.ensures.judged v at is),
    )
