use Rattle.std.proofs.Common.{◌≡◌, ◌∙◌, true, Bool, Some, None, ap, sym, subst, string_bytes, rules}
use Rattle.std.specs.Prelude.{IsUtf8, if◌then◌else◌}
use Rattle.percent_encoding.specs.Percent.{percent_decode}
use Rattle.command_line.specs.DocIds.{has_id_length}
use Rattle.command_line.proofs.Lists.{id-of-text, no-id}
use Rattle.command_line.proofs.doc_ids.id_of.Goals as goal

pub returns-in-Err-Utf8 : goal.returns-in-Err-Utf8
returns-in-Err-Utf8 c =
    let decoded = c.percent_decode.ensures.bytes ∙ ap percent_decode c.as_bytes.ensures.value in
    sym (no-id c.args.part.now (λ text. absurd (cc (c.in-Err-Utf8.field-0-is, c.in-Err-Utf8.ensures.utf8 (subst IsUtf8 (sym decoded) text)))))

pub returns : goal.returns
returns c =
    let decoded = c.percent_decode.ensures.bytes ∙ ap percent_decode c.as_bytes.ensures.value in
    let id = string_bytes c.in_ok-from_str.field-0 in
    let same : id ≡ percent_decode c.args.part.now = c.in_ok-from_str.ensures.ok ∙ c.as_str-2.ensures.value ∙ c.in-Ok.ensures.value ∙ decoded in
    let read : c.as_str.result.now ≡ id = c.as_str.ensures.value ∙ sym c.as_str-2.ensures.value ∙ sym c.in_ok-from_str.ensures.ok in
    let fits : c.has_id_length.result ≡ true = search rules in
    let long : has_id_length id ≡ true = ap has_id_length (sym read) ∙ sym c.has_id_length.ensures ∙ fits in
    sym (id-of-text c.args.part.now id (Some id) (subst IsUtf8 decoded c.in-Ok.ensures.ok_only_if_utf8) same (ap (λ (b : Bool). if b then Some id else None) long))
