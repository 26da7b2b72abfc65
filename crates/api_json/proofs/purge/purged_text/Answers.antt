use Rattle.std.proofs.Common.{◌++◌, map, ap, ◌∙◌}
use Rattle.std.specs.Prelude.{codes}
use Rattle.serde_json.specs.Data.{object}
use Rattle.serde_json.specs.Written.{compact_text}
use Rattle.api_json.specs.Objects.{members_from}
use Rattle.api_json.specs.Purge.{named_leaves}
use Rattle.api_json.proofs.AnswerTexts.{purged_data-parts, purged_front}
use Rattle.api_json.proofs.purge.purged_text.Goals as goal

pub returns : goal.returns
returns c =
    let documents = c.documents.result.now in
    let front = purged_front c.args.purge_seq in
    let list = compact_text (object (members_from (map named_leaves documents))) in
    c.in_ok-push_str.ensures.bytes
    ∙ ap (λ t. t ++ codes "}") (c.in_ok-text.ensures ∙ ap (λ f. f ++ list) c.in_ok-front.ensures.ok)
    ∙ ap (λ es. (front ++ compact_text (object (members_from (map named_leaves es)))) ++ codes "}") c.documents.ensures.entries
    ∙ purged_data-parts c.args.purge_seq c.args.removed.now
