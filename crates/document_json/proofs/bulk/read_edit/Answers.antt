use Rattle.std.proofs.Common.{sym}
use Rattle.document_json.specs.declared.fault.Fault.TheVariants.{Refused}
use Rattle.document_json.specs.Document.{text_of}
use Rattle.document_json.specs.Revisions.{rev_of}
use Rattle.document_json.proofs.Checks.{refused_first}
use Rattle.document_json.proofs.bulk.read_edit.Goals as goal

pub returns : goal.returns
returns c = refused_first (Refused c.in-Err.reason) (rev_of (text_of c.args.document.parts.rev)) _ (sym c.in-Err.ensures)
