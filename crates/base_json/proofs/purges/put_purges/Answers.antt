use Rattle.std.proofs.Common.{ℕ, [], ◌∷◌, ◌++◌, false, map, string_bytes, sym, ap, ◌∙◌}
use Rattle.std.specs.Map.Iter.{deref_pair}
use Rattle.std.proofs.lemmas.Iterator.Consumers.{YieldsList-from_rest, YieldsList-end}
use Rattle.std.proofs.lemmas.Result.{on_ok_weaker}
use Rattle.serde_json.specs.Data.{Data, array}
use Rattle.serde_json.specs.View.{items_of}
use Rattle.serde_json.specs.Written.{compact_text}
use Rattle.api_json.specs.List.{stands_after}
use Rattle.api_json.proofs.ListTexts.{one_more, stands_after-push}
use Rattle.base_json.specs.Base.{purge_info_data}
use Rattle.purge.specs.Log.{PurgedEntry, info_of}
use Rattle.history_json.proofs.Lists.{closed}
use Rattle.base_json.proofs.Mapped.{map_twice, mapped_more}
use Rattle.history_json.proofs.Parts.{pushed}
use Rattle.base_json.proofs.purges.put_purges.Goals as goal

abbrev shown_data : ℕ × PurgedEntry → Data
shown_data e = purge_info_data (info_of e)

pub loop-seq-preserved : goal.loop-seq-preserved
loop-seq-preserved c =
    let front = map shown_data (map deref_pair c.loop-seq.yielded) in
    let item = deref_pair (c.in-Some.seq, c.in-Some.purged) in
    let more = mapped_more deref_pair shown_data c.loop-seq.yielded (c.in-Some.seq, c.in-Some.purged) in
    let told = c.in_ok-put_purged.ensures ∙ ap (λ t. t ++ compact_text (purge_info_data (info_of item))) c.in_ok-put_comma.ensures in
    record {
      text = one_more (string_bytes c.args.text.now) _ _ c.loop-seq.later front _ (shown_data item) c.loop-seq.invariant.text c.loop-seq.invariant.later told more;
      later = sym (ap (stands_after false) more ∙ stands_after-push false front (shown_data item));
    }

pub returns : goal.returns
returns c =
    let t = YieldsList-end (YieldsList-from_rest {shows = deref_pair} c.iter-seq-items.result cc) c.loop-seq.yielded _ c.loop-seq.yielded_by _ _ c.in-None.is c.next.ensures.steps in
    let before = string_bytes c.args.text.now in
    let whole = ap (map shown_data) t.0 ∙ map_twice info_of purge_info_data c.iter-seq-items.result ∙ ap (map purge_info_data) c.iter-seq-items.ensures.rest in
    on_ok_weaker c.push_str-2.result
    (λ h. h ∙ ap (λ t. t ++ 93 ∷ []) c.loop-seq.invariant.text ∙ closed before (map shown_data (map deref_pair c.loop-seq.yielded))
    ∙ ap (λ xs. before ++ compact_text (array (items_of xs))) whole)
    (pushed c.push_str-2.result _ _ _ c.push_str-2.ensures.bytes)
