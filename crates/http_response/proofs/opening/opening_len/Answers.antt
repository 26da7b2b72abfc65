use Rattle.std.proofs.Common.{length, map, rules, ap, ◌∙◌}
use Rattle.std.proofs.lemmas.Result.{IfOk-weaker}
use Rattle.serde_json.specs.Data.{array}
use Rattle.serde_json.specs.View.{items_of}
use Rattle.serde_json.specs.Written.{compact_text}
use Rattle.http_response.proofs.Openings.{all-shown, shown_data}
use Rattle.http_response.proofs.opening.opening_len.Goals as goal

pub returns : goal.returns
returns g c = record {
  len =
      let document = g.O.Revisions.document c.args.opening.now in
      IfOk-weaker c.list_len.result _ _
      (λ len h. h ∙ ap (λ ds. length (compact_text (array (items_of ds)))) (ap (map (shown_data document)) c.revs.ensures.revs ∙ all-shown document (g.O.Revisions.shown c.args.opening.now)))
      (c.list_len.ensures (shown_data document) (λ item answered h. search (rules, c.in_ok-lists.ensures)));
}
