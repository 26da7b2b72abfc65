use Rattle.std.proofs.Common.{sym, ◌∙◌}
use Rattle.std.proofs.lemmas.Result.{IfOk-weaker}
use Rattle.history_json.proofs.Taken.{local_found}
use Rattle.history_json.proofs.command.read_command.Goals as goal

pub returns-in-Some-take-2 : goal.returns-in-Some-take-2
returns-in-Some-take-2 c =
    IfOk-weaker c.read_local.result _ _
    (λ found tells command is e. local_found c.in-Some.members c.take.new.self c.take-2.new.self c.in-Some-take-2.id found c.args.value command c.in-Some.ensures is e
    (sym c.in_default-take.is ∙ c.take.ensures.taken) c.take.ensures.left c.in-Some-take-2.ensures.taken c.in-Some-take-2.ensures.left tells)
    c.read_local.ensures
