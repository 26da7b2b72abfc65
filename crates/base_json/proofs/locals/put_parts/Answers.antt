use Rattle.std.proofs.Common.{◌≡◌, List, ℕ, ◌++◌, string_bytes, decimal, append_assoc, refl, ap, ◌∙◌}
use Rattle.std.specs.Prelude.{codes}
use Rattle.std.proofs.lemmas.Result.{on_ok_weaker}
use Rattle.serde_json.specs.Data.{string}
use Rattle.serde_json.specs.Written.{compact_text}
use Rattle.model.specs.Body.{body_text}
use Rattle.base_json.proofs.BaseTexts.{kept_text}
use Rattle.history_json.proofs.Parts.{parts_3}
use Rattle.base_json.proofs.locals.put_parts.Goals as goal

joined : (a b c d e : List ℕ) → (a ++ (b ++ c)) ++ (d ++ e) ≡ a ++ (b ++ (c ++ (d ++ e)))
joined a b c d e = simp append_assoc refl

pub returns : goal.returns
returns c =
    let old = string_bytes c.args.text.now in
    let id = c.args.id.now in
    let counter = c.args.counter in
    let body = c.args.body.now in
    let back = codes ",\"k\":" ++ (decimal counter ++ codes "}") in
    on_ok_weaker c.write-2.result
    (λ h. parts_3 old _ _ _ (codes "{\"body\":" ++ (body_text body ++ codes ",\"id\":")) (compact_text (string id)) back
    (c.in_ok-write.ensures.bytes ∙ ap (λ b. old ++ (codes "{\"body\":" ++ (b ++ codes ",\"id\":"))) c.text-body.ensures.text)
    c.in_ok-put.ensures h
    ∙ ap (λ t. old ++ t) (joined (codes "{\"body\":") (body_text body) (codes ",\"id\":") (compact_text (string id)) back ∙ kept_text id (record { counter = counter; body = body })))
    c.write-2.ensures.bytes
