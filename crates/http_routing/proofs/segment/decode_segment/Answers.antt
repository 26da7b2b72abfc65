use Rattle.std.proofs.Common.{ap, sym, subst, ◌∙◌, Some}
use Rattle.std.specs.Prelude.{IsUtf8}
use Rattle.percent_encoding.specs.Percent.{percent_decode}
use Rattle.http_routing.proofs.Values.{segment_text-utf8, segment_text-other, percent_decode-plain}
use Rattle.http_routing.proofs.segment.decode_segment.Goals as goal

pub returns-in-Ok-clause-ok : goal.returns-in-Ok-clause-ok
returns-in-Ok-clause-ok c =
    let decoded = c.percent_decode.ensures.bytes ∙ ap percent_decode c.as_bytes.ensures.value in
    segment_text-utf8 _ (subst IsUtf8 decoded c.in-Ok.ensures.ok_only_if_utf8) ∙ ap Some (sym (c.in-Ok.ensures.value ∙ decoded))

pub returns-in-Err-Utf8-clause-lent : goal.returns-in-Err-Utf8-clause-lent
returns-in-Err-Utf8-clause-lent c = λ plain.
    let decoded = c.percent_decode.ensures.bytes ∙ ap percent_decode c.as_bytes.ensures.value ∙ percent_decode-plain c.args.segment.now plain in
    absurd (cc (c.in-Err-Utf8.field-0-is, c.in-Err-Utf8.ensures.utf8 (subst IsUtf8 (sym decoded) c.utf8.segment)))

pub returns-in-Err-Utf8-clause-not_text : goal.returns-in-Err-Utf8-clause-not_text
returns-in-Err-Utf8-clause-not_text c = λ is.
    let decoded = c.percent_decode.ensures.bytes ∙ ap percent_decode c.as_bytes.ensures.value in
    segment_text-other _ (λ text. absurd (cc (c.in-Err-Utf8.field-0-is, c.in-Err-Utf8.ensures.utf8 (subst IsUtf8 (sym decoded) text))))
