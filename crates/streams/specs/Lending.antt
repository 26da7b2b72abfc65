-- What a stream lends of itself.
use Rattle.std.specs.Borrow.{RattleType, Lends, MutBor, Fml}
use Rattle.streams.specs.declared.counted.Stream.{Stream}
use Rattle.streams.specs.contracts.counted.Stream.{the_row}

-- the stream over another reader or writer, with the same count and budget
abbrev pub with_inner : {T : Type 0} → Stream T → T → Stream T
with_inner stream inner = record stream { inner = inner }

-- the stream ends over the last value behind r
abbrev pub LendsInner : (T : RattleType) → MutBor (Stream T.Denot) → MutBor T.Denot → Fml
LendsInner T stream r = Lends (the_row T) T stream r (with_inner stream.now)
