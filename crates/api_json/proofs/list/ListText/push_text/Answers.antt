use Rattle.std.proofs.Common.{◌≡◌, ◌++◌, false, string_bytes, ap, sym, ◌∙◌}
use Rattle.serde_json.specs.Written.{comma_if}
use Rattle.api_json.specs.List.{stands_after}
use Rattle.api_json.proofs.ListTexts.{one_more, stands_after-push}
use Rattle.api_json.proofs.list.ListText.push_text.Goals as goal

pub returns : goal.returns
returns c =
    let list = c.args.self.now in
    let stood = string_bytes list.text ++ comma_if list.has_items in
    let pushed : string_bytes c.push_str.new.self ≡ stood ++ c.args.item.now =
    c.in_ok-push_str.ensures.bytes ∙ ap (λ t. t ++ c.args.item.now) c.in_ok-put_comma.ensures in
    λ before items more d h is all. record {
      text = one_more before (string_bytes list.text) (string_bytes c.push_str.new.self) list.has_items items more d h.text h.later (pushed ∙ ap (λ t. stood ++ t) is) all;
      later = sym (ap (stands_after false) all ∙ stands_after-push false items d);
    }
