use Rattle.std.proofs.Common.{◌∙◌}
use Rattle.command_line.proofs.Built.{with_one}
use Rattle.command_line.proofs.replay.command.Goals as goal

pub returns-clause-app : goal.returns-clause-app
returns-clause-app c =
    let check = with_one _ _ _ _ _ c.program-replay.ensures.app c.check.ensures.app c.in_ok-replay.ensures.app in
    with_one _ _ _ _ _ check c.in_ok-base.ensures.app c.in_ok-replay-2.ensures.app

pub returns-clause-local : goal.returns-clause-local
returns-clause-local c = c.in_ok-replay-2.ensures.local ∙ c.in_ok-replay.ensures.local ∙ c.program-replay.ensures.local

pub returns-clause-subcommand : goal.returns-clause-subcommand
returns-clause-subcommand c = c.in_ok-replay-2.ensures.required ∙ c.in_ok-replay.ensures.required ∙ c.program-replay.ensures.required
