use Rattle.std.proofs.Common.{◌≡◌, ℕ, List, ◌++◌, subst}
use Rattle.std.specs.Prelude.{IfSome, MatchBool}
use Rattle.std.specs.Io.{StopsAt, appended_bytes}
use Rattle.std.specs.Io.KnownBytes.{Consumes}
use Rattle.std.specs.Io.BufRead.{take_through}
use Rattle.journal.specs.Replaying.{HasFeed}
use Rattle.journal.proofs.Feeds.{kind}
use Rattle.journal.proofs.next_line.next_line.Goals as goal

pub returns : goal.returns
returns g c =
    let old = g.R.Read.remaining c.args.reader.now in
    let new = g.R.Read.remaining c.read_until.new.self in
    let line = c.read_until.new.buf.items in
    let none = c.clear.ensures.items in
    let consumed : Consumes old new line = subst (λ (b : List ℕ). Consumes old new (appended_bytes b line)) none c.read_until.ensures.none_lost in
    let stops : StopsAt line 10 = subst (λ (b : List ℕ). StopsAt (appended_bytes b line) 10) none c.read_until.ensures.stops in
    let took : IfSome old (λ xs. line ≡ take_through 10 xs) = subst (λ (b : List ℕ). IfSome old (λ xs. line ≡ b ++ take_through 10 xs)) none c.in_ok-_len.ensures.bytes in
    let has = subst (λ (l : List ℕ). MatchBool c.has_feed.result (HasFeed l) (HasFeed l → ⊥)) c.deref.ensures.value c.has_feed.ensures in
    record { consumed = consumed; kind = kind old new line c.has_feed.result has stops took c.in_ok-_len.ensures.rest consumed }
