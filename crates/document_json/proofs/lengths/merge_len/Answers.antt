use Rattle.std.proofs.Common.{length, ap, ◌∙◌}
use Rattle.serde_json.specs.Written.{compact_text}
use Rattle.document_json.specs.Written.{document_data}
use Rattle.document_json.proofs.lengths.merge_len.Goals as goal

pub returns : goal.returns
returns c = c.in_ok-len.ensures ∙ ap (λ d. length (compact_text (document_data d))) c.in_ok-document.ensures
