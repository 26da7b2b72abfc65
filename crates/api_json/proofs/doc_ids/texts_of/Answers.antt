use Rattle.std.proofs.Common.{[], ◌∷◌, ◌++◌, map, take, get_or, ap, sym, ◌∙◌, arith}
use Rattle.std.proofs.lemmas.List.{append-nil, map-append}
use Rattle.std.specs.List.{filter_map}
use Rattle.serde_json.specs.Find.{as_str}
use Rattle.api_json.proofs.DocIds.{texts-more, one_text, no_text}
use Rattle.api_json.proofs.doc_ids.texts_of.Goals as goal
use Rattle.api_json.proofs.doc_ids.texts_of.Goals.{in-Some+in_ok-push, in_default}

pub loop-value-preserved : goal.loop-value-preserved
loop-value-preserved c =
    let values = c.args.values.now in
    let i = c.loop-value.value-index in
    let item = get_or values i c.value-item.result in
    let before = filter_map as_str (take i values) in
    let more = texts-more values i c.value-item.result (omega arith) in
    elim c.match-as_str.branch [
      | in-Some+in_ok-push w ↦
          ap (λ ts. map (λ t. t.now) ts.items) w.texts-is
          ∙ ap (map (λ t. t.now)) w.in_ok-push.ensures.items
          ∙ map-append (λ t. t.now) c.loop-value.texts.items (w.in-Some.text ∷ [])
          ∙ ap (λ ts. ts ++ w.in-Some.text.now ∷ []) c.loop-value.invariant
          ∙ ap (λ ts. before ++ ts) (sym (one_text item w.in-Some.text.now (rw w.in-Some.is at c.as_str.ensures ∙ ap as_str c.value-item.is)))
          ∙ sym more
      | in_default w ↦
          ap (λ ts. map (λ t. t.now) ts.items) w.texts-is
          ∙ c.loop-value.invariant
          ∙ sym (append-nil before)
          ∙ ap (λ ts. before ++ ts) (sym (no_text item (rw w.in_default.is at c.as_str.ensures ∙ ap as_str c.value-item.is)))
          ∙ sym more
    ]
