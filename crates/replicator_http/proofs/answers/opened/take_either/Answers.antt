use Rattle.std.proofs.Common.{ap, refl, ◌∙◌}
use Rattle.std.specs.Prelude.{codes}
use Rattle.serde_json.specs.Find.{get_member}
use Rattle.document_json.proofs.Members.{get_member-without}
use Rattle.replicator_http.proofs.answers.opened.take_either.Goals as goal

pub returns-clause-missing : goal.returns-clause-missing
returns-clause-missing c =
    c.take-missing.ensures.taken ∙ ap (get_member (codes "missing")) c.take-document.ensures.left
    ∙ get_member-without (codes "missing") (codes "ok") c.args.object refl
