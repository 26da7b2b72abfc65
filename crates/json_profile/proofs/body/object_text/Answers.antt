use Rattle.std.proofs.Common.{◌≡◌, false, ap, ◌∙◌}
use Rattle.std.proofs.lemmas.Result.{IfOk-weaker}
use Rattle.serde_json.specs.Data.{object}
use Rattle.serde_json.specs.View.{view, members_view}
use Rattle.serde_json.specs.Written.{has_float, compact_text}
use Rattle.serde_json.specs.declared.value.Value.{Object}
use Rattle.serde_json.proofs.Views.{view-Object}
use Rattle.json_profile.proofs.Floats.{has_float-whole}
use Rattle.json_profile.proofs.body.object_text.Goals as goal

pub returns : goal.returns
returns c =
    let is = view-Object c.args.members in
    let plain : has_float (view (Object c.args.members)) ≡ false = rw is (has_float-whole (object (members_view c.args.members.entries)) c.requires) in
    IfOk-weaker c.to_string.result _ _ (λ text written. written plain ∙ ap compact_text is) c.to_string.ensures.text
