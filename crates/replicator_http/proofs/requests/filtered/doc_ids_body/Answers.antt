use Rattle.std.proofs.Common.{◌++◌, map, ap, ◌∙◌, List}
use Rattle.std.specs.Prelude.{codes}
use Rattle.serde_json.specs.Data.{array, string}
use Rattle.serde_json.specs.View.{items_of}
use Rattle.serde_json.specs.Written.{compact_text}
use Rattle.model.specs.Command.{Id}
use Rattle.replicator_http.proofs.DocIdsTexts.{doc_ids_data-parts}
use Rattle.replicator_http.proofs.requests.filtered.doc_ids_body.Goals as goal

pub returns : goal.returns
returns c =
    let ids = c.args.ids.now in
    let told = ap (λ (l : List Id). compact_text (array (items_of (map string l)))) (c.deref.ensures.value ∙ c.in_ok-listed.ensures) in
    c.in_ok-push_str.ensures.bytes
    ∙ ap (λ t. t ++ codes "}") (c.in_ok-text.ensures ∙ ap (λ f. f ++ compact_text (array (items_of (map string c.deref.result.now)))) c.in_ok-front.ensures.ok ∙ ap (λ l. codes "{\"doc_ids\":" ++ l) told)
    ∙ doc_ids_data-parts ids
