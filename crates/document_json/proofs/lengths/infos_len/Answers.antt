use Rattle.std.proofs.Common.{true, Some, length, sym, ap, ◌∙◌, rules}
use Rattle.std.specs.Prelude.{option_map}
use Rattle.json_profile.specs.Joined.{bare_text}
use Rattle.document_json.specs.Written.{info_data, infos_data, infos_member}
use Rattle.document_json.proofs.lengths.infos_len.Goals as goal

pub returns : goal.returns
returns c =
    c.in_ok-len.ensures (infos_data c.deref.result.now) (c.in_ok-value.ensures info_data (λ item answered h. search rules))
    ∙ ap (λ infos. length (bare_text true (infos_member (Some infos)))) c.deref.ensures.value
    ∙ ap (λ infos. length (bare_text true (infos_member (option_map (λ listed. listed.items) infos)))) (sym c.in-Some.is)

pub returns-in_default : goal.returns-in_default
returns-in_default c = ap (λ infos. length (bare_text true (infos_member (option_map (λ listed. listed.items) infos)))) (sym c.in_default.is)
