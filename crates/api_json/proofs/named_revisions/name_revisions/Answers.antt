use Rattle.std.proofs.Common.{◌∙◌, Ok, ap, sym, true≢false}
use Rattle.model.specs.Map.{from_list}
use Rattle.document_json.specs.Steps.{and_then}
use Rattle.api_json.proofs.NamedRevisions.{asked-rises, rising-map}
use Rattle.api_json.proofs.named_revisions.name_revisions.Goals as goal

pub unreachable-requires : goal.unreachable-requires
unreachable-requires c =
    let rises = asked-rises c.args.object c.in_ok-asked.asked.items c.requires c.in_ok-asked.ensures in
    true≢false (sym (c.in_default.ensures.rising.1 rises))

pub returns : goal.returns
returns c =
    let asked = c.in_ok-asked.asked.items in
    let rises = asked-rises c.args.object asked c.requires c.in_ok-asked.ensures in
    ap (λ found. and_then found (λ listed. Ok (from_list listed))) c.in_ok-asked.ensures
    ∙ ap Ok (rising-map asked c.in-Some.named rises c.in-Some.ensures.entries)
