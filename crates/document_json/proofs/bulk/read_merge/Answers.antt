use Rattle.document_json.specs.Bulk.{revisions_of}
use Rattle.document_json.proofs.Checks.{refused_first}
use Rattle.document_json.proofs.bulk.read_merge.Goals as goal

pub returns-in-Err : goal.returns-in-Err
returns-in-Err c = refused_first c.in-Err.fault (revisions_of c.args.document.parts.rev c.args.document.path) _ c.in-Err.ensures
