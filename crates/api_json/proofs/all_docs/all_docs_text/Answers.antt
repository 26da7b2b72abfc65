use Rattle.std.proofs.Common.{◌++◌, string_bytes, ap, ◌∙◌}
use Rattle.serde_json.specs.Written.{compact_text}
use Rattle.api_json.specs.AllDocs.{all_listed_data}
use Rattle.api_json.proofs.all_docs.all_docs_text.Goals as goal

pub returns : goal.returns
returns c =
    let front = string_bytes c.in_ok-before.field-0.before ++ compact_text (all_listed_data c.args.documents.now) in
    c.in_ok-push_str.ensures.bytes
    ∙ ap (λ t. t ++ c.as_str.result.now) c.in_ok-text.ensures
    ∙ ap (λ t. front ++ t) c.as_str.ensures.value
    ∙ c.in_ok-before.ensures.frame
