use Rattle.std.proofs.Common.{◌≡◌, ◌++◌, string_bytes, ap, ◌∙◌}
use Rattle.std.specs.Prelude.{codes}
use Rattle.std.proofs.lemmas.Result.{IfOk-weaker}
use Rattle.json.specs.Print.{quoted}
use Rattle.api_json.proofs.AnswerTexts.{listed_data-parts}
use Rattle.api_json.proofs.all_docs.listed_text.Goals as goal

pub returns : goal.returns
returns c = record {
  text =
      let listed = c.args.listed.now in
      let winner = string_bytes c.in_ok-winner.winner in
      let id : string_bytes c.in_ok-id.id ≡ quoted listed.0 = c.in_ok-id.ensures ∙ ap quoted c.as_str.ensures.text in
      IfOk-weaker c.format.result _ _ (
      λ s h. h
      ∙ ap (λ i. codes "{\"id\":" ++ (i ++ (codes ",\"key\":" ++ (i ++ (codes ",\"value\":" ++ (winner ++ codes "}")))))) id
      ∙ ap (λ w. codes "{\"id\":" ++ (quoted listed.0 ++ (codes ",\"key\":" ++ (quoted listed.0 ++ (codes ",\"value\":" ++ (w ++ codes "}")))))) c.in_ok-winner.ensures
      ∙ listed_data-parts listed.0 listed.1
      ) c.format.ensures.ok;
}
