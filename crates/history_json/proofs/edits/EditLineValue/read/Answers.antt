use Rattle.std.proofs.Common.{sym, ◌∙◌}
use Rattle.std.proofs.lemmas.Result.{IfOk-weaker}
use Rattle.history_json.proofs.Taken.{edit_found, inside}
use Rattle.history_json.proofs.edits.EditLineValue.read.Goals as goal

pub returns-in-Some-named-clause-found : goal.returns-in-Some-named-clause-found
returns-in-Some-named-clause-found c =
    IfOk-weaker c.edit_over.result _ _
    (λ found tells it is e. edit_found c.in-Some.members c.take-named.new.self c.in-Some-named.named it c.in-Some-2.write found
    (inside c.args.value c.in-Some.members _ c.in-Some.ensures e) c.in-Some-named.ensures.taken c.in-Some-named.ensures.left is
    (λ id deleted body more p q stands. sym c.in-Some-2.is ∙ c.in_ok-write.ensures.found id deleted body more p q stands) tells)
    c.edit_over.ensures.found
