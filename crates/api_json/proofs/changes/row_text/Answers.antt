use Rattle.std.proofs.Common.{◌≡◌, ◌++◌, string_bytes, ap, ◌∙◌}
use Rattle.std.specs.Prelude.{codes}
use Rattle.json.specs.Print.{quoted}
use Rattle.model.specs.Query.{Row}
use Rattle.serde_json.specs.Written.{compact_text}
use Rattle.api_json.specs.Changes.{before_id, leaves_data}
use Rattle.api_json.proofs.AnswerTexts.{row_data-parts, row_end}
use Rattle.api_json.proofs.changes.row_text.Goals as goal

pub returns : goal.returns
returns c = record {
  text =
      let row : Row = c.args.row.now in
      let is = c.row.view_is in
      let front = codes "{\"changes\":" in
      let changes = compact_text (leaves_data row.changes) in
      let listed : string_bytes c.in_ok-text.text ≡ front ++ changes =
      c.in_ok-text.ensures ∙ ap (λ f. f ++ compact_text (leaves_data c.deref.result.now)) c.in_ok-front.ensures.ok
      ∙ ap (λ revs. front ++ compact_text (leaves_data revs)) (c.deref.ensures.value ∙ ap (λ (r : Row). r.changes) is) in
      let marked : string_bytes c.push_str.new.self ≡ (front ++ changes) ++ before_id row.deleted =
      c.in_ok-push_str.ensures.bytes ∙ ap (λ t. t ++ c.before_id.result.now) listed
      ∙ ap (λ b. (front ++ changes) ++ b) (c.before_id.ensures ∙ ap (λ (r : Row). before_id r.deleted) is) in
      let named : string_bytes c.put_string.new.text ≡ ((front ++ changes) ++ before_id row.deleted) ++ quoted row.id =
      c.in_ok-put_string.ensures ∙ ap (λ t. t ++ quoted c.as_str.result.now) marked
      ∙ ap (λ s. ((front ++ changes) ++ before_id row.deleted) ++ quoted s) (c.as_str.ensures.text ∙ ap (λ (r : Row). r.id) is) in
      c.in_ok-push_str-2.ensures.bytes ∙ ap (λ t. t ++ c.as_str-2.result.now) named
      ∙ ap (λ e. (((front ++ changes) ++ before_id row.deleted) ++ quoted row.id) ++ e) (c.as_str-2.ensures.value ∙ c.in_ok-end.ensures.ok ∙ ap (λ (r : Row). row_end r.seq) is)
      ∙ row_data-parts row;
}
