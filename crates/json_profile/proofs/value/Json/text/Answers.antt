use Rattle.std.proofs.lemmas.Result.{IfOk-weaker}
use Rattle.serde_json.specs.View.{view}
use Rattle.json_profile.proofs.Floats.{has_float-whole}
use Rattle.json_profile.proofs.value.Json.text.Goals as goal

pub returns : goal.returns
returns c =
    let plain = has_float-whole (view c.self.inside.value) c.self.invariant.whole in
    rw (← c.self.view_is) (IfOk-weaker c.to_string.result _ _ (λ s h. h plain) c.to_string.ensures.text)
