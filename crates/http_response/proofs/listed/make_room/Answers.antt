use Rattle.std.proofs.Common.{drop, take, string_bytes, subst}
use Rattle.std.specs.Io.KnownBytes.{Appends}
use Rattle.http_response.proofs.PiecedTexts.{keeps_rest, none_on_err}
use Rattle.http_response.proofs.listed.make_room.Goals as goal

pub returns-in_err-write_all-clause-kept : goal.returns-in_err-write_all-clause-kept
returns-in_err-write_all-clause-kept g c =
    let old = g.W.Sink.taken c.args.writer.now in
    let new = g.W.Sink.taken c.write_all.new.writer in
    let text = string_bytes c.args.piece.now in
    let part = c.in_err-write_all.ensures.written.1 in (
      drop part.0 text,
      keeps_rest old new text part.0 (subst (λ t. Appends old new (take part.0 t)) c.as_bytes.ensures.value part.2),
      none_on_err _ c.from_residual.result c.from_residual.ensures.0,
    )
