use Rattle.std.proofs.Common.{◌++◌, string_bytes, ap, ◌∙◌}
use Rattle.serde_json.specs.Written.{compact_text}
use Rattle.api_json.specs.AllDocs.{all_listed_data}
use Rattle.api_json.proofs.AnswerTexts.{all_docs_data-parts, all_docs_front}
use Rattle.api_json.proofs.all_docs.all_docs_frame.Goals as goal

pub returns : goal.returns
returns c = record {
  frame =
      let documents = c.args.documents.now in
      let rows = compact_text (all_listed_data documents) in
      ap (λ t. (t ++ rows) ++ string_bytes c.in_ok-after.after) c.in_ok-before.ensures.ok
      ∙ ap (λ t. (all_docs_front ++ rows) ++ t) c.in_ok-after.ensures.ok
      ∙ all_docs_data-parts documents;
}
