use Rattle.std.proofs.Common.{[], ◌∷◌, ◌++◌, false, map, string_bytes, sym, ap, ◌∙◌}
use Rattle.std.specs.Map.Iter.{deref_pair}
use Rattle.std.proofs.lemmas.Iterator.Consumers.{YieldsList-from_rest, YieldsList-end}
use Rattle.std.proofs.lemmas.Result.{on_ok_weaker}
use Rattle.serde_json.specs.Data.{array}
use Rattle.serde_json.specs.View.{items_of}
use Rattle.serde_json.specs.Written.{compact_text}
use Rattle.api_json.specs.List.{stands_after}
use Rattle.api_json.proofs.ListTexts.{one_more, stands_after-push}
use Rattle.base_json.specs.Base.{record_data}
use Rattle.history_json.proofs.Lists.{closed}
use Rattle.base_json.proofs.Mapped.{mapped_more}
use Rattle.history_json.proofs.Parts.{pushed}
use Rattle.base_json.proofs.documents.put_documents.Goals as goal

pub loop-id-preserved : goal.loop-id-preserved
loop-id-preserved c =
    let front = map record_data (map deref_pair c.loop-id.yielded) in
    let item = deref_pair (c.in-Some.id, c.in-Some.stored) in
    let more = mapped_more deref_pair record_data c.loop-id.yielded (c.in-Some.id, c.in-Some.stored) in
    let told = (rw c.get.ensures at c.in_ok-put_document.ensures) ∙ ap (λ t. t ++ compact_text (record_data item)) c.in_ok-put_comma.ensures in
    record {
      text = one_more (string_bytes c.args.text.now) _ _ c.loop-id.later front _ (record_data item) c.loop-id.invariant.text c.loop-id.invariant.later told more;
      later = sym (ap (stands_after false) more ∙ stands_after-push false front (record_data item));
    }

pub returns : goal.returns
returns c =
    let t = YieldsList-end (YieldsList-from_rest {shows = deref_pair} c.iter-id-items.result cc) c.loop-id.yielded _ c.loop-id.yielded_by _ _ c.in-None.is c.next.ensures.steps in
    let before = string_bytes c.args.text.now in
    let whole = ap (map record_data) (t.0 ∙ c.iter-id-items.ensures.rest) in
    on_ok_weaker c.push_str-2.result
    (λ h. h ∙ ap (λ t. t ++ 93 ∷ []) c.loop-id.invariant.text ∙ closed before (map record_data (map deref_pair c.loop-id.yielded))
    ∙ ap (λ xs. before ++ compact_text (array (items_of xs))) whole)
    (pushed c.push_str-2.result _ _ _ c.push_str-2.ensures.bytes)
