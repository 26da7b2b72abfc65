use Rattle.std.proofs.Common.{◌≡◌, ℕ, List, ◌++◌, map, string_bytes, decimal, append_assoc, refl, ap, ap₂, ◌∙◌}
use Rattle.std.specs.Prelude.{codes}
use Rattle.std.proofs.lemmas.Result.{on_ok_weaker}
use Rattle.serde_json.specs.Data.{array}
use Rattle.serde_json.specs.View.{items_of}
use Rattle.serde_json.specs.Written.{compact_text}
use Rattle.base_json.specs.Base.{purge_info_data}
use Rattle.base_json.proofs.BaseTexts.{log_text}
use Rattle.history_json.proofs.Parts.{parts_3}
use Rattle.base_json.proofs.base.put_log.Goals as goal

joined : (a b c d e f g : List ℕ) → (a ++ (b ++ (c ++ (d ++ e)))) ++ (f ++ g) ≡ a ++ (b ++ (c ++ (d ++ (e ++ (f ++ g)))))
joined a b c d e f g = simp append_assoc refl

pub returns : goal.returns
returns c =
    let old = string_bytes c.args.text.now in
    let log = c.args.log.now in
    let purges = compact_text (array (items_of (map purge_info_data log.infos))) in
    let back = codes ",\"update_seq\":" ++ (decimal c.args.update_seq ++ codes "}") in
    let front = ap₂ (λ seq limit. codes ",\"purge_seq\":" ++ (decimal seq ++ (codes ",\"purged_limit\":" ++ (decimal limit ++ codes ",\"purges\":")))) c.purge_seq-purge_seq.ensures c.limit-limit.ensures in
    on_ok_weaker c.write-2.result
    (λ h. parts_3 old _ _ _ _ purges back
    (c.in_ok-write.ensures.bytes ∙ ap (λ t. old ++ t) front) c.in_ok-put_purges.ensures h
    ∙ ap (λ t. old ++ t) (joined (codes ",\"purge_seq\":") (decimal log.purge_seq) (codes ",\"purged_limit\":") (decimal log.limit) (codes ",\"purges\":") purges back
    ∙ log_text log c.args.update_seq))
    c.write-2.ensures.bytes
