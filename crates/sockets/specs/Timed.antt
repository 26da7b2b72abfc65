-- What a reader and a writer of a socket count.
use Rattle.std.specs.Prelude.{ℕ}
use Rattle.streams.specs.Stream.{failures_of, budget_of}
use Rattle.sockets.specs.declared.reader.TimedReader.{TimedReader}
use Rattle.sockets.specs.declared.writer.TimedWriter.{TimedWriter}

-- how many reads have failed
abbrev pub reads_failed : {T C : Type 0} → TimedReader T C → ℕ
reads_failed reader = failures_of reader.waiting

-- how many more bytes it gives
abbrev pub bytes_left : {T C : Type 0} → TimedReader T C → ℕ
bytes_left reader = budget_of reader.waiting

-- how many writes have failed
abbrev pub writes_failed : {T C : Type 0} → TimedWriter T C → ℕ
writes_failed writer = failures_of writer.offering
