use Rattle.std.proofs.Common.{◌≡◌, ◌∙◌, ap, map, subst, sym}
use Rattle.api_json.specs.NamedRevisions.{member_pair, pairs_in}
use Rattle.api_json.proofs.NamedRevisions.{each-map, pairs_in-members_of}
use Rattle.document_json.specs.Each.{DecidesEach, each}
use Rattle.replicator_http.specs.Differences.{named_difference}
use Rattle.replicator_http.proofs.answers.differences.read_documents.Goals as goal

pub returns : goal.returns
returns c =
    let members = c.in_ok-members.members.items in
    let pairs : pairs_in c.args.object ≡ map member_pair members = ap pairs_in (sym c.in_ok-members.ensures) ∙ pairs_in-members_of members in
    subst (λ found. DecidesEach c.read_members.result found) (each-map named_difference member_pair members ∙ ap (λ ps. each named_difference ps) (sym pairs)) c.read_members.ensures
