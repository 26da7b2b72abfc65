use Rattle.std.proofs.Common.{[], ◌∷◌, ◌++◌, false, map, string_bytes, sym, ap, ◌∙◌}
use Rattle.std.proofs.lemmas.Iterator.Consumers.{YieldsList-from_first, YieldsList-end}
use Rattle.std.proofs.lemmas.Result.{on_ok_weaker}
use Rattle.serde_json.specs.Data.{array}
use Rattle.serde_json.specs.View.{items_of}
use Rattle.serde_json.specs.Written.{compact_text}
use Rattle.api_json.specs.List.{stands_after}
use Rattle.api_json.proofs.ListTexts.{one_more, stands_after-push}
use Rattle.revision_tree.specs.Nodes.{entry_of}
use Rattle.revision_tree.specs.Walk.{left_of}
use Rattle.history_json.proofs.Lists.{closed}
use Rattle.history_json.proofs.Parts.{pushed}
use Rattle.base_json.specs.Base.{revision_data}
use Rattle.base_json.proofs.Mapped.{map_twice, mapped_more}
use Rattle.base_json.proofs.revisions.put_tree.Goals as goal

pub loop-node-preserved : goal.loop-node-preserved
loop-node-preserved c =
    let front = map (λ n. revision_data (entry_of n)) (map (λ x. x.now) c.loop-node.yielded) in
    let item = revision_data (entry_of c.in-Some.node.now) in
    let more = mapped_more (λ x. x.now) (λ n. revision_data (entry_of n)) c.loop-node.yielded c.in-Some.node in
    let told = c.in_ok-put_node.ensures ∙ ap (λ t. t ++ compact_text item) c.in_ok-put_comma.ensures in
    record {
      text = one_more (string_bytes c.args.text.now) _ _ c.loop-node.later front _ item c.loop-node.invariant.text c.loop-node.invariant.later told more;
      later = sym (ap (stands_after false) more ∙ stands_after-push false front item);
    }

pub returns : goal.returns
returns c =
    let all = left_of c.nodes-node-items.result in
    let t = YieldsList-end (YieldsList-from_first (λ x. x.now) left_of {s = c.into_iter-node-iterator.result} all cc) c.loop-node.yielded _ c.loop-node.yielded_by _ c.next.new.self c.in-None.is c.next.ensures.steps in
    let before = string_bytes c.args.text.now in
    let whole = ap (map (λ n. revision_data (entry_of n))) t.0 ∙ map_twice entry_of revision_data all ∙ ap (map revision_data) (sym c.nodes-node-items.ensures.entries) in
    on_ok_weaker c.push_str-2.result
    (λ h. h ∙ ap (λ t. t ++ 93 ∷ []) c.loop-node.invariant.text ∙ closed before (map (λ n. revision_data (entry_of n)) (map (λ x. x.now) c.loop-node.yielded))
    ∙ ap (λ xs. before ++ compact_text (array (items_of xs))) whole)
    (pushed c.push_str-2.result _ _ _ c.push_str-2.ensures.bytes)
