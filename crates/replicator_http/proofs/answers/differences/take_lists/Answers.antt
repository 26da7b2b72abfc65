use Rattle.std.proofs.Common.{ap, refl, ◌∙◌}
use Rattle.std.specs.Prelude.{codes}
use Rattle.serde_json.specs.Find.{get_member}
use Rattle.document_json.proofs.Members.{get_member-without}
use Rattle.replicator_http.proofs.answers.differences.take_lists.Goals as goal

pub returns-clause-ancestors : goal.returns-clause-ancestors
returns-clause-ancestors c =
    c.take-ancestors.ensures.taken ∙ ap (get_member (codes "possible_ancestors")) c.take-missing.ensures.left
    ∙ get_member-without (codes "possible_ancestors") (codes "missing") c.args.object refl
