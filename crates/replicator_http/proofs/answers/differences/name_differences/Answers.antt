use Rattle.std.proofs.Common.{◌∙◌, Ok, ap}
use Rattle.model.specs.Map.{from_list}
use Rattle.document_json.specs.Steps.{and_then}
use Rattle.replicator_http.proofs.Under.{differences-map, differences-rise}
use Rattle.replicator_http.proofs.answers.differences.name_differences.Goals as goal

pub new-requires : goal.new-requires
new-requires c = record {
  rising = differences-rise c.args.object c.in_ok-documents.documents.items c.requires c.in_ok-documents.ensures;
}

pub returns : goal.returns
returns c =
    let documents = c.in_ok-documents.documents.items in
    let rises = differences-rise c.args.object documents c.requires c.in_ok-documents.ensures in
    ap (λ found. and_then found (λ ds. Ok (from_list ds))) c.in_ok-documents.ensures
    ∙ ap Ok (differences-map documents c.new.result rises c.new.ensures.entries)
