use Rattle.std.proofs.Common.{List, ℕ, ◌<◌, Ok, Err, length, take, subst, arith}
use Rattle.std.specs.Prelude.{⊤}
use Rattle.std.specs.Io.KnownBytes.{Appends}
use Rattle.http_guard.specs.Extended.{extended}
use Rattle.http_guard.proofs.Decided.{never_cut}
use Rattle.http_guard.proofs.Ended.{extended-cut, extended-ended}
use Rattle.http_guard.proofs.passing.answer_to.Goals as goal

pub returns-in_default-clause-turn : goal.returns-in_default-clause-turn
returns-in_default-clause-turn g c =
    let turn = c.in_default.ensures.turn in
    rw c.into_writer.ensures (
      turn.0,
      turn.1,
      (
        tt,
        subst (λ (ls : List ℕ). (n : ℕ) × (n < length (extended ls turn.0.text)) × Appends (g.W.Sink.taken c.args.writer) (g.W.Sink.taken c.answer.new.writer.writer) (take n (extended ls turn.0.text)))
            c.requires.lines (extended-cut g.K.Start.lines _ g.K.Start.taken _ _ turn.0.text c.requires.taken turn.2.1),
      ),
      tt,
      λ cut. omega (arith, turn.2.1.1),
      tt,
    )

pub returns-in_default-finish-clause-turn : goal.returns-in_default-finish-clause-turn
returns-in_default-finish-clause-turn g c =
    let turn = c.in-Ok.ensures.turn in
    rw c.into_writer-in_default-finish.ensures (
      turn.0,
      turn.1,
      subst (λ (ls : List ℕ). Unit {0} × ((n : ℕ) × (n < length (extended ls turn.0.text)) × Appends (g.W.Sink.taken c.args.writer) (g.W.Sink.taken c.finish.new.self.writer) (take n (extended ls turn.0.text))))
          c.requires.lines (extended-ended g.K.Start.lines {A = ⊤} _ g.K.Start.taken _ _ _ (Err c.in_default-finish.field-0) turn.0.text c.requires.taken turn.2.0 c.in_default-finish.ensures.written),
      tt,
      never_cut turn.3,
      tt,
    )

pub returns-clause-turn : goal.returns-clause-turn
returns-clause-turn g c =
    let turn = c.in-Ok.ensures.turn in
    rw c.into_writer-2.ensures (
      turn.0,
      turn.1,
      subst (λ (ls : List ℕ). Appends (g.W.Sink.taken c.args.writer) (g.W.Sink.taken c.finish.new.self.writer) (extended ls turn.0.text) × Unit {0})
          c.requires.lines (extended-ended g.K.Start.lines {E = ⊤} _ g.K.Start.taken _ _ _ (Ok (tt {0})) turn.0.text c.requires.taken turn.2.0 c.in-Ok-finish.ensures.written),
      turn.3,
      never_cut turn.3,
      turn.4,
    )
