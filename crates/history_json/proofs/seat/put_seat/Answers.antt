use Rattle.std.proofs.Common.{◌++◌, string_bytes, decimal, ap, ap₂, ◌∙◌}
use Rattle.std.specs.Prelude.{codes}
use Rattle.std.proofs.lemmas.Result.{on_ok_weaker}
use Rattle.history_json.proofs.Texts.{seat_text}
use Rattle.history_json.proofs.seat.put_seat.Goals as goal

pub returns : goal.returns
returns c =
    let named = ap₂ (λ session call. codes ",\"seat\":[" ++ (decimal session ++ (codes "," ++ (decimal call ++ codes "]}")))) c.session-session.ensures.session c.call-call.ensures.call in
    on_ok_weaker c.write.result (λ h. h ∙ ap (λ t. string_bytes c.args.text.now ++ t) (named ∙ seat_text c.args.seat)) c.write.ensures.bytes
