use Rattle.std.proofs.Common.{sym}
use Rattle.document_json.proofs.RevisionTexts.{rev_named-is, rev_named-none}
use Rattle.document_json.proofs.revision.read_revision.Goals as goal

pub returns-in-Ok : goal.returns-in-Ok
returns-in-Ok c = sym (rev_named-is c.in-Ok.rev c.args.text.now c.generation-recalled.ensures.in_range c.in-Ok.ensures.parsed)

pub returns-in-Err : goal.returns-in-Err
returns-in-Err c = sym (rev_named-none c.args.text.now c.in-Err.ensures.malformed.1)
