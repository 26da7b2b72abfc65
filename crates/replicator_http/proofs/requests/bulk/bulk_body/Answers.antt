use Rattle.std.proofs.Common.{◌++◌, map, ap, ◌∙◌}
use Rattle.std.specs.Prelude.{codes}
use Rattle.serde_json.specs.Data.{array}
use Rattle.serde_json.specs.View.{items_of}
use Rattle.serde_json.specs.Written.{compact_text}
use Rattle.document_json.specs.Written.{merge_data}
use Rattle.replicator_http.proofs.BulkTexts.{bulk_data-parts}
use Rattle.replicator_http.proofs.requests.bulk.bulk_body.Goals as goal

pub returns : goal.returns
returns c =
    let list = compact_text (array (items_of (map merge_data c.args.documents.now))) in
    c.in_ok-push_str.ensures.bytes
    ∙ ap (λ t. t ++ codes ",\"new_edits\":false}") (c.in_ok-text.ensures ∙ ap (λ f. f ++ list) c.in_ok-front.ensures.ok)
    ∙ bulk_data-parts c.args.documents.now
