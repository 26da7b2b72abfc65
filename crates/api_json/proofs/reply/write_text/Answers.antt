use Rattle.std.proofs.Common.{◌≡◌, ◌++◌, string_bytes, ap, ◌∙◌}
use Rattle.std.specs.Prelude.{codes}
use Rattle.json.specs.Print.{quoted}
use Rattle.api_json.proofs.AnswerTexts.{write_data-parts}
use Rattle.api_json.proofs.reply.write_text.Goals as goal

pub returns : goal.returns
returns c =
    let id = c.args.id.now in
    let rev = c.args.rev.now in
    let front = codes "{\"id\":" in
    let middle = codes ",\"ok\":true,\"rev\":" in
    let opened : string_bytes c.push_str.new.self ≡ front = c.in_ok-push_str.ensures.bytes ∙ ap (λ t. t ++ front) c.in_ok-text.ensures.bytes in
    let named : string_bytes c.put_string.new.text ≡ front ++ quoted id = c.in_ok-put_string.ensures ∙ ap (λ t. t ++ quoted id) opened in
    let later : string_bytes c.push_str-2.new.self ≡ (front ++ quoted id) ++ middle = c.in_ok-push_str-2.ensures.bytes ∙ ap (λ t. t ++ middle) named in
    let told : string_bytes c.put_string-2.new.text ≡ ((front ++ quoted id) ++ middle) ++ quoted rev =
    c.in_ok-put_string-2.ensures ∙ ap (λ t. t ++ quoted rev) later in
    c.in_ok-push_str-3.ensures.bytes ∙ ap (λ t. t ++ codes "}") told ∙ write_data-parts id rev
