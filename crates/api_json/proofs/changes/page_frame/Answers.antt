use Rattle.std.proofs.Common.{◌≡◌, ◌++◌, string_bytes, ap, ◌∙◌}
use Rattle.model.specs.Query.{ChangesPage}
use Rattle.serde_json.specs.Written.{compact_text}
use Rattle.api_json.specs.Changes.{rows_data}
use Rattle.api_json.proofs.AnswerTexts.{page_data-parts, page_front}
use Rattle.api_json.proofs.changes.page_frame.Goals as goal

pub returns : goal.returns
returns c = record {
  frame =
      let page : ChangesPage = c.args.page.now in
      let rows = compact_text (rows_data page.rows) in
      let before : string_bytes c.in_ok-before.before ≡ page_front page =
      c.in_ok-before.ensures.ok ∙ ap (λ (p : ChangesPage). page_front p) c.page.view_is in
      ap (λ t. (t ++ rows) ++ string_bytes c.in_ok-after.after) before
      ∙ ap (λ t. (page_front page ++ rows) ++ t) c.in_ok-after.ensures.ok
      ∙ page_data-parts page;
}
