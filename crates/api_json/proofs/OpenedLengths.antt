-- How long the revisions are that were asked for.
use Rattle.std.proofs.Common.{◌≡◌, ◌+◌, ◌++◌, length, refl, ap, length-append, arith}
use Rattle.std.specs.Prelude.{codes}
use Rattle.serde_json.specs.Written.{compact_text}
use Rattle.serde_json.proofs.OnLiterals.{serde_json_on_literals}
use Rattle.model.specs.Query.{Document}
use Rattle.model.specs.Revision.{Rev}
use Rattle.document_json.specs.Written.{document_data, rev_data}
use Rattle.api_json.specs.Opened.{found_data, missing_data}
use Rattle.api_json.proofs.AnswerTexts.{found-text}

pub length-found : (d : Document) → length (compact_text (found_data d)) ≡ length (compact_text (document_data d)) + 7
length-found d =
    let whole = ap length (found-text d (compact_text (document_data d)) refl) in
    let behind = length-append (compact_text (document_data d)) (codes "}") in
    omega (arith, whole, behind)

missing-text : (rev : Rev) → codes "{\"missing\":" ++ (compact_text (rev_data rev) ++ codes "}") ≡ compact_text (missing_data rev)
unfolding serde_json_on_literals
missing-text rev = refl

pub length-missing : (rev : Rev) → length (compact_text (missing_data rev)) ≡ length (compact_text (rev_data rev)) + 12
length-missing rev =
    let whole = ap length (missing-text rev) in
    let behind = length-append (compact_text (rev_data rev)) (codes "}") in
    omega (arith, whole, behind)
