use Rattle.std.proofs.Common.{◌∙◌}
use Rattle.command_line.proofs.Built.{with_three}
use Rattle.command_line.proofs.serving.with_bounds.Goals as goal

pub returns-clause-app : goal.returns-clause-app
returns-clause-app c =
    with_three _ _ _ _ _ _ _ _ _ _ c.idle.ensures.rule c.patience.ensures.rule c.max_places.ensures.rule
    c.in_ok-command.ensures.app c.in_ok-command-2.ensures.app c.in_ok-command-3.ensures.app

pub returns-clause-local : goal.returns-clause-local
returns-clause-local c = c.in_ok-command-3.ensures.local ∙ c.in_ok-command-2.ensures.local ∙ c.in_ok-command.ensures.local
