use Rattle.std.proofs.Common.{sym}
use Rattle.document_json.proofs.RevisionTexts.{rev_with-is, rev_with-none}
use Rattle.document_json.proofs.revision.read_revision_with.Goals as goal

pub returns-in-Ok-clause-revision : goal.returns-in-Ok-clause-revision
returns-in-Ok-clause-revision c =
    let parts = c.in-Ok.ensures.parts in
    sym (rev_with-is c.in-Ok.rev c.args.generation c.args.hash.now c.generation-recalled.ensures.in_range parts.0 parts.1)

pub returns-in-Err-clause-revision : goal.returns-in-Err-clause-revision
returns-in-Err-clause-revision c = sym (rev_with-none c.args.generation c.args.hash.now c.in-Err.ensures.malformed.1)
