use Rattle.std.proofs.Common.{◌≡◌, List, ◌<◌, length, take, inr, sym, ◌∙◌, subst}
use Rattle.std.specs.List.{flat_map}
use Rattle.std.specs.Io.KnownBytes.{Appends}
use Rattle.api_json.specs.Changes.{feed_line}
use Rattle.model.specs.Query.{Row}
use Rattle.http_turns.proofs.RowsLeft.{gives_part, wrote_some}
use Rattle.http_turns.proofs.feed.give.Goals as goal

pub returns-then-not-whole-clause-gives : goal.returns-then-not-whole-clause-gives
returns-then-not-whole-clause-gives g c =
    let k = g.S.Viewer.known c.args.session.now in
    let taken = g.W.Sink.taken c.args.writer.now in
    let taken' = g.W.Sink.taken c.write_rows.new.writer in
    let found = c.in-Ok.ensures in
    let rows : c.deref.result.now ≡ found.0.rows = c.deref.ensures.value ∙ sym found.3 in
    let some = wrote_some taken taken' c.in-Ok-write_rows.whole c.deref.result.now c.if-not-whole.true c.in-Ok-write_rows.ensures.written in
    let short = subst (λ (rs : List Row). some.0 < length rs) rows some.1 in
    let written = subst (λ (rs : List Row). Appends taken taken' (flat_map feed_line (take some.0 rs))) rows some.2 in
    inr (gives_part k found.0 found.1 found.2 some.0 short taken taken' written)
