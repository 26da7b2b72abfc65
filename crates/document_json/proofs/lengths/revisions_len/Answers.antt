use Rattle.std.proofs.Common.{true, Some, length, sym, ap, ◌∙◌}
use Rattle.std.specs.Prelude.{option_map}
use Rattle.json_profile.specs.Joined.{bare_text}
use Rattle.document_json.specs.Written.{revisions_data, revisions_member}
use Rattle.document_json.proofs.lengths.revisions_len.Goals as goal

pub returns : goal.returns
returns c =
    c.in_ok-len.ensures (revisions_data c.deref.result.now) c.in_ok-value.ensures
    ∙ ap (λ revs. length (bare_text true (revisions_member (Some revs)))) c.deref.ensures.value
    ∙ ap (λ revisions. length (bare_text true (revisions_member (option_map (λ listed. listed.items) revisions)))) (sym c.in-Some.is)

pub returns-in_default : goal.returns-in_default
returns-in_default c = ap (λ revisions. length (bare_text true (revisions_member (option_map (λ listed. listed.items) revisions)))) (sym c.in_default.is)
