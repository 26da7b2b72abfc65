use Rattle.std.proofs.Common.{◌≡◌, ◌==◌, ◌&&◌, not, length, false, ◌++◌, [], ◌∷◌, string_bytes, refl, ap, ◌∙◌}
use Rattle.serde_json.specs.Written.{comma_if}
use Rattle.json_profile.specs.Joined.{bare_text, front_of}
use Rattle.document_json.specs.Written.{front_text}
use Rattle.document_json.proofs.Specials.{text-between}
use Rattle.document_json.proofs.special.text_around.Goals as goal

pub returns : goal.returns
returns c special some is =
    let f = bare_text false (front_of c.args.body.now) in
    let b = c.back-back.result.now in
    let told = front_text c.args.body.now ++ bare_text false special in
    let first : string_bytes c.finish-text.result ≡ told = c.finish-text.ensures (front_text c.args.body.now) special is in
    let later = told ++ comma_if ((length f == 0) && not (length b == 0)) in
    let comma : string_bytes c.put_comma.new.text ≡ later =
    c.in_ok-put_comma.ensures ∙ ap (λ t. t ++ comma_if c.stands_first.result) first ∙ ap (λ e. told ++ comma_if e) c.stands_first.ensures
    ∙ ap (λ t. told ++ comma_if ((length t == 0) && not (length b == 0))) c.front-front.ensures in
    let backed : string_bytes c.push_str.new.self ≡ later ++ b = c.in_ok-push_str.ensures.bytes ∙ ap (λ t. t ++ b) comma in
    c.in_ok-push_str-2.ensures.bytes ∙ ap (λ t. t ++ 125 ∷ []) backed
    ∙ text-between c.args.body.now special f b some refl c.back-back.ensures
