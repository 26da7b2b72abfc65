use Rattle.std.proofs.Common.{◌≡◌, ℕ, ◌++◌, List}
use Rattle.std.specs.Io.KnownBytes.{Consumes}
use Rattle.http_client.specs.Incoming.{ReadsIfUnfinished}
use Rattle.http_client.proofs.incoming.Incoming.read_response.Given as goal

-- a piece has come, which was needed, and no read has failed
abbrev pub invariant-reads : goal.invariant-reads
invariant-reads g l =
    (piece : List ℕ)
    × (l.self ≡ l.fn.self ++ piece)
    × Consumes (g.R.Source.left l.fn.reader) (g.R.Source.left l.reader) piece
    × (g.R.Source.failed_reads l.reader ≡ g.R.Source.failed_reads l.fn.reader)
    × ReadsIfUnfinished l.fn.self l.self l.fn.reader l.reader

-- each read that goes on takes some of what may come
abbrev pub decreases-reads : goal.decreases-reads
decreases-reads g l = g.R.Source.budget l.reader
