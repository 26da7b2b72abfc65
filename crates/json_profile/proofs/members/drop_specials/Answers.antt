use Rattle.std.proofs.Common.{rules, ◌≡◌, false, sym, ap, ◌∙◌, not, string_bytes}
use Rattle.std.proofs.lemmas.Map.Made.{filter_same_pairs}
use Rattle.serde_json.specs.View.{members_view}
use Rattle.serde_json.proofs.Views.{Entry}
use Rattle.model.specs.Profile.{is_special}
use Rattle.json_profile.specs.Objects.{has_special}
use Rattle.json_profile.proofs.Specials.{filter_plain, all_stay}
use Rattle.json_profile.proofs.members.drop_specials.Goals as goal

pub returns-then-not-has_special : goal.returns-then-not-has_special
returns-then-not-has_special c =
    let none : has_special (members_view c.args.members.now.entries) ≡ false = cc in
    sym (all_stay (members_view c.args.members.now.entries) none)

pub returns : goal.returns
returns c =
    ap members_view (filter_same_pairs _ (λ (e : Entry). not (is_special (string_bytes e.0))) _ (λ k v b w f' t. search rules) _ _ c.retain.ensures.filtered) ∙ filter_plain c.args.members.now.entries
