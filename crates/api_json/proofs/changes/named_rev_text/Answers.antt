use Rattle.std.proofs.Common.{◌≡◌, ◌++◌, string_bytes, ap, ◌∙◌}
use Rattle.std.specs.Prelude.{codes}
use Rattle.json.specs.Print.{quoted}
use Rattle.model.specs.Revision.{rev_text}
use Rattle.serde_json.specs.Written.{compact_text}
use Rattle.document_json.specs.Written.{rev_data}
use Rattle.api_json.proofs.AnswerTexts.{named_rev-parts}
use Rattle.api_json.proofs.changes.named_rev_text.Goals as goal

pub returns : goal.returns
returns c =
    let rev = c.args.rev.now in
    let front = codes "{\"rev\":" in
    let own : c.as_str.result.now ≡ rev_text rev = c.as_str.ensures.value ∙ c.in_ok-rev.ensures in
    let named : string_bytes c.put_string.new.text ≡ front ++ compact_text (rev_data rev) =
    c.in_ok-put_string.ensures ∙ ap (λ t. t ++ quoted c.as_str.result.now) c.in_ok-text.ensures.ok ∙ ap (λ r. front ++ quoted r) own in
    c.in_ok-push_str.ensures.bytes ∙ ap (λ t. t ++ codes "}") named ∙ named_rev-parts rev
