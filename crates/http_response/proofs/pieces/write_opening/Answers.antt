use Rattle.std.proofs.Common.{◌++◌, map, string_bytes, rules, ap, ◌∙◌, subst}
use Rattle.serde_json.specs.Data.{Data, array}
use Rattle.serde_json.specs.View.{items_of}
use Rattle.serde_json.specs.Written.{compact_text}
use Rattle.streams.specs.Writes.{Writes}
use Rattle.std.specs.Prelude.{List}
use Rattle.http_response.proofs.Openings.{all-shown, shown_data}
use Rattle.http_response.proofs.pieces.write_opening.Goals as goal

pub returns-clause-written : goal.returns-clause-written
returns-clause-written g c =
    let document = g.O.Revisions.document c.args.opening.now in
    let text = string_bytes c.args.first in
    let after = c.args.after.now in
    subst (λ (ds : List Data). Writes (g.W.Sink.taken c.args.writer.now) (g.W.Sink.taken c.write_list.new.writer) c.write_list.result (text ++ (compact_text (array (items_of ds)) ++ after)))
    (ap (map (shown_data document)) c.revs.ensures.revs ∙ all-shown document (g.O.Revisions.shown c.args.opening.now))
    (c.write_list.ensures.written (shown_data document) (λ item told h. search rules))
