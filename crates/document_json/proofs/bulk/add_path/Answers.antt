use Rattle.document_json.specs.Bulk.{path_found}
use Rattle.document_json.proofs.Checks.{refused_first}
use Rattle.document_json.proofs.bulk.add_path.Goals as goal

pub returns-in-Err : goal.returns-in-Err
returns-in-Err c = refused_first c.in-Err.fault (path_found c.args.parts.revisions) _ c.in-Err.ensures
