use Rattle.std.proofs.Common.{◌∙◌}
use Rattle.command_line.proofs.Built.{with_two}
use Rattle.command_line.proofs.browsers.with_browsers.Goals as goal

pub returns-clause-app : goal.returns-clause-app
returns-clause-app c =
    with_two _ _ _ _ _ _ _ c.origins.ensures.rule c.hosts.ensures.rule c.in_ok-command.ensures.app c.in_ok-command-2.ensures.app

pub returns-clause-local : goal.returns-clause-local
returns-clause-local c = c.in_ok-command-2.ensures.local ∙ c.in_ok-command.ensures.local
