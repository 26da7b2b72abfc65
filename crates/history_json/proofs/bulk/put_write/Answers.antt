use Rattle.std.proofs.Common.{◌≡◌, ◌++◌, string_bytes, ap, ◌∙◌}
use Rattle.std.specs.Prelude.{codes}
use Rattle.std.proofs.lemmas.Result.{on_ok_weaker}
use Rattle.serde_json.specs.Data.{string}
use Rattle.serde_json.specs.Written.{compact_text}
use Rattle.history_json.proofs.Parts.{parts_2}
use Rattle.history_json.proofs.Texts.{before_id, flag, front_text}
use Rattle.history_json.proofs.bulk.put_write.Goals as goal

pub returns : goal.returns
returns c =
    let old = string_bytes c.args.text.now in
    let body = c.args.body.now in
    let deleted = c.args.deleted in
    let id = c.args.id.now in
    let front : string_bytes c.write.new.self ≡ old ++ before_id body deleted =
    c.in_ok-write.ensures.bytes ∙ ap (λ b. old ++ (codes "{\"body\":" ++ (b ++ (codes ",\"deleted\":" ++ (flag deleted ++ codes ",\"id\":"))))) c.text-body.ensures.text in
    on_ok_weaker c.put.result
    (λ h. parts_2 old _ _ (before_id body deleted) (compact_text (string id)) front h ∙ ap (λ t. old ++ t) (front_text id deleted body))
    c.put.ensures
