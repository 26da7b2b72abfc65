use Rattle.std.proofs.Common.{◌≡◌, ◌++◌, [], ◌∷◌, append_assoc, string_bytes, sym, ap, ◌∙◌}
use Rattle.document_json.proofs.Strings.{quoted-unescaped}
use Rattle.document_json.proofs.text.put_string.Goals as goal

pub returns : goal.returns
returns c =
    let before = string_bytes c.args.text.now in
    let s = c.args.string.now in
    let opened : string_bytes c.push_str-2.new.self ≡ before ++ 34 ∷ [] = c.in_ok-push_str.ensures.bytes in
    let told : string_bytes c.push_str-3.new.self ≡ (before ++ 34 ∷ []) ++ s = c.in_ok-push_str-2.ensures.bytes ∙ ap (λ t. t ++ s) opened in
    c.in_ok-push_str-3.ensures.bytes ∙ ap (λ t. t ++ 34 ∷ []) told
    ∙ append_assoc (before ++ 34 ∷ []) s (34 ∷ []) ∙ append_assoc before (34 ∷ []) (s ++ 34 ∷ [])
    ∙ ap (λ t. before ++ t) (quoted-unescaped s (sym c.is_all_unescaped.ensures ∙ c.if-not-is_all_unescaped.false))
