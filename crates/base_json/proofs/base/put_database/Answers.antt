use Rattle.std.proofs.Common.{◌≡◌, ℕ, true, List, ◌++◌, map, string_bytes, decimal, append_assoc, refl, ap, ◌∙◌}
use Rattle.std.specs.Prelude.{codes}
use Rattle.std.proofs.lemmas.Result.{on_ok_weaker}
use Rattle.serde_json.specs.Data.{array}
use Rattle.serde_json.specs.View.{items_of}
use Rattle.serde_json.specs.Written.{compact_text, members_text}
use Rattle.model.specs.Map.{entries}
use Rattle.base_json.specs.Base.{kept_local_data, log_members, record_data}
use Rattle.base_json.proofs.BaseTexts.{database_text}
use Rattle.history_json.proofs.Parts.{parts_5}
use Rattle.base_json.proofs.base.put_database.Goals as goal

joined : (a b c d e f g : List ℕ) → a ++ (b ++ ((c ++ (d ++ e)) ++ (f ++ g))) ≡ a ++ (b ++ (c ++ (d ++ (e ++ (f ++ g)))))
joined a b c d e f g = simp append_assoc refl

pub returns : goal.returns
returns c =
    let old = string_bytes c.args.text.now in
    let d = c.args.base.now in
    let docs = compact_text (array (items_of (map record_data (entries d.docs)))) in
    let locals = compact_text (array (items_of (map kept_local_data (entries d.locals)))) in
    let log = members_text true (log_members d.purges d.update_seq) in
    let updates : c.update_seq-update_seq.result ≡ d.update_seq = c.update_seq-update_seq.ensures ∙ ap (λ l. l.update_seq) c.documents.ensures in
    on_ok_weaker c.put_log.result
    (λ h. parts_5 old _ _ _ _ _ (codes "{\"docs\":") docs (codes ",\"limit\":" ++ (decimal d.revs_limit ++ codes ",\"locals\":")) locals log
    c.in_ok-push_str.ensures.bytes
    (rw c.documents-2.ensures at c.in_ok-put_documents.ensures)
    (rw c.revs_limit-limit.ensures.limit at c.in_ok-write.ensures.bytes)
    (rw c.locals.ensures at c.in_ok-put_locals.ensures)
    (rw (c.purges.ensures.log, updates) at h)
    ∙ ap (λ t. old ++ t) (joined (codes "{\"docs\":") docs (codes ",\"limit\":") (decimal d.revs_limit) (codes ",\"locals\":") locals log ∙ database_text d))
    c.put_log.ensures
