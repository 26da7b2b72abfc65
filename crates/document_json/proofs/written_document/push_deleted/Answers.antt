use Rattle.std.proofs.Common.{sym, subst}
use Rattle.document_json.specs.MembersText.{Writes}
use Rattle.document_json.specs.Written.{flag_member}
use Rattle.document_json.proofs.MemberTexts.{writes-none}
use Rattle.document_json.proofs.written_document.push_deleted.Goals as goal

pub returns-else-deleted : goal.returns-else-deleted
returns-else-deleted c =
    let special = c.args.special.now in
    subst (λ deleted. Writes special special (flag_member deleted)) (sym c.if-deleted.false) (writes-none special)
