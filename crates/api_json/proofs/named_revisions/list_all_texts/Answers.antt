use Rattle.std.proofs.Common.{◌≡◌, ◌∙◌, ap, map, subst, sym}
use Rattle.api_json.specs.NamedRevisions.{member_pair, pairs_in, texts_listed}
use Rattle.document_json.specs.Each.{DecidesEach, each}
use Rattle.api_json.proofs.NamedRevisions.{each-map, pairs_in-members_of}
use Rattle.api_json.proofs.named_revisions.list_all_texts.Goals as goal

pub returns : goal.returns
returns c =
    let members = c.in_ok-members.members.items in
    let pairs : pairs_in c.args.object ≡ map member_pair members = ap pairs_in (sym c.in_ok-members.ensures) ∙ pairs_in-members_of members in
    subst (λ found. DecidesEach c.list_members.result found) (each-map texts_listed member_pair members ∙ ap (λ ps. each texts_listed ps) (sym pairs)) c.list_members.ensures
