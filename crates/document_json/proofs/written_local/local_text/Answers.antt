use Rattle.std.proofs.Common.{◌≡◌, List, ℕ, refl, ap, subst, ◌∙◌}
use Rattle.std.specs.Prelude.{codes}
use Rattle.std.proofs.lemmas.Result.{IfOk-weaker}
use Rattle.serde_json.specs.Data.{Members, member, no_members, string}
use Rattle.serde_json.specs.Written.{compact_text}
use Rattle.document_json.specs.MembersText.{IsMembersAfter}
use Rattle.document_json.specs.Written.{front_text}
use Rattle.document_json.proofs.Specials.{local-between, local_special}
use Rattle.document_json.proofs.written_local.local_text.Goals as goal

abbrev named : List ℕ → List ℕ → Members
named id rev = member (codes "_id") (string id) (member (codes "_rev") (string rev) no_members)

pub returns : goal.returns
returns c =
    let front = front_text c.args.body.now in
    let id = c.as_str.result.now in
    let first = c.in_ok-push_string.ensures front no_members c.in_ok-special.ensures.special in
    let second = c.in_ok-push_string-2.ensures front (member (codes "_id") (string id) no_members) first in
    let same : named id c.as_str-2.result.now ≡ local_special c.args.id.now c.args.counter =
    λ i. named ((c.as_str.ensures.value ∙ c.in_ok-id.ensures) i) ((c.as_str-2.ensures.value ∙ c.in_ok-rev.ensures) i) in
    let written = subst (λ members. IsMembersAfter front c.push_string-2.new.self members) same second in
    IfOk-weaker c.text_around.result _ _
    (λ text told. told (local_special c.args.id.now c.args.counter) refl written
    ∙ ap compact_text (local-between c.args.id.now c.args.counter c.args.body.now c.in_ok-special.ensures.body))
    c.text_around.ensures
