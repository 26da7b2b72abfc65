use Rattle.std.proofs.Common.{◌≡◌, ◌≤◌, Some, true≢false, string_bytes, sym, ap, ◌∙◌, arith}
use Rattle.std.proofs.lemmas.Bool.{leb-true}
use Rattle.serde_json.specs.Data.{Members, no_members, object, members_depth, depth}
use Rattle.serde_json.specs.Read.{read}
use Rattle.serde_json.specs.View.{members_view}
use Rattle.model.specs.Body.{body_text}
use Rattle.json_profile.proofs.Kept.{kept_of, body_of, nothing, read_as}
use Rattle.json_profile.specs.Joined.{split_of}
use Rattle.json_profile.proofs.body.Body.of_plain.Goals as goal

pub invariant_of-result : goal.invariant_of-result
invariant_of-result c =
    let ms : Members = members_view c.args.members.entries in
    let nests : members_depth ms ≤ 63 = leb-true _ _ (sym c.if-not-members_nest_within.ensures) in
    let shallow : depth (object ms) ≤ 127 = omega (arith, nests) in
    let text : string_bytes c.shrink_to_fit.new.self ≡ body_text ms = c.shrink_to_fit.ensures.bytes ∙ c.in_ok-text.ensures.text in
    let reads : read (string_bytes c.shrink_to_fit.new.self) ≡ Some (object ms) = ap read c.shrink_to_fit.ensures.bytes ∙ c.in_ok-text.ensures.reads_back shallow in
    let some : ms ≡ no_members → ⊥ = λ e. true≢false (sym (c.is_empty.ensures.1 (nothing c.args.members.entries e)) ∙ c.if-is_empty.false) in
    let at = c.in_ok-text.ensures.split ∙ ap split_of (sym (read_as _ ms reads)) in
    record { whole = kept_of _ ms some text reads (body_of ms c.requires nests); at = at }
