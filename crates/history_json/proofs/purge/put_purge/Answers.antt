use Rattle.std.proofs.Common.{◌≡◌, ◌++◌, map, string_bytes, ap, ◌∙◌}
use Rattle.std.specs.Prelude.{codes}
use Rattle.std.proofs.lemmas.Result.{on_ok_weaker}
use Rattle.serde_json.specs.Data.{object}
use Rattle.serde_json.specs.Written.{compact_text}
use Rattle.api_json.specs.Objects.{members_from}
use Rattle.api_json.specs.Purge.{named_leaves, removed_data}
use Rattle.history_json.proofs.Parts.{parts_3, pushed}
use Rattle.history_json.proofs.Texts.{purge_text}
use Rattle.history_json.proofs.purge.put_purge.Goals as goal

pub returns : goal.returns
returns c =
    let old = string_bytes c.args.text.now in
    let named = c.args.named.now in
    let listed = compact_text (object (members_from (map named_leaves c.documents.result.now))) in
    let documents : string_bytes c.in_ok-documents.documents ≡ compact_text (removed_data named) =
    c.in_ok-documents.ensures ∙ ap (λ t. t ++ listed) c.new.ensures.bytes ∙ ap (λ es. compact_text (object (members_from (map named_leaves es)))) c.documents.ensures.entries in
    let opened = string_bytes c.push_str.new.self in
    on_ok_weaker c.push_str-3.result
    (λ h. parts_3 old opened _ _ (codes "{\"purge\":") (compact_text (removed_data named)) (codes "}") c.in_ok-push_str.ensures.bytes
    (c.in_ok-push_str-2.ensures.bytes ∙ ap (λ t. opened ++ t) (c.as_str.ensures.value ∙ documents)) h
    ∙ ap (λ t. old ++ t) (purge_text named))
    (pushed c.push_str-3.result _ _ _ c.push_str-3.ensures.bytes)
