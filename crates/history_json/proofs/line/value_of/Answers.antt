use Rattle.std.proofs.Common.{◌≡◌, Ok, Err, sym, ap, ◌∙◌}
use Rattle.document_json.specs.Steps.{Checked}
use Rattle.document_json.specs.Text.{json_of}
use Rattle.serde_json.specs.Data.{Data}
use Rattle.history_json.specs.Line.{entry_data}
use Rattle.history_json.proofs.InProfile.{line-json}
use Rattle.history_json.proofs.line.value_of.Goals as goal

pub returns-in-Ok : goal.returns-in-Ok
returns-in-Ok c = λ e is text.
    let found : ◌≡◌ {A = Checked Data} (Ok c.in-Ok.value) (Ok (entry_data e)) = sym c.in-Ok.ensures ∙ ap json_of text ∙ line-json e is in
    cc

pub returns-in-Err-Refused : goal.returns-in-Err-Refused
returns-in-Err-Refused c = λ e is text.
    let refused = rw c.in-Err-Refused.field-0-is at c.in-Err-Refused.ensures in
    let found : ◌≡◌ {A = Checked Data} (Err c.in-Err-Refused.field-0-0) (Ok (entry_data e)) = sym refused ∙ ap json_of text ∙ line-json e is in
    absurd (cc)
