use Rattle.api_json.proofs.NamedRevisions.{object-ordered}
use Rattle.api_json.proofs.named_revisions.read_named_revisions.Goals as goal

pub name_revisions-requires : goal.name_revisions-requires
name_revisions-requires c = object-ordered c.in_ok-value.value c.in-Some.object c.value-recalled.ensures.profiled.ordered c.in-Some.ensures
