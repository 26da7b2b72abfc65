use Rattle.std.proofs.Common.{◌∙◌}
use Rattle.command_line.proofs.Built.{with_four}
use Rattle.command_line.proofs.journal.with_journal.Goals as goal

pub returns-clause-app : goal.returns-clause-app
returns-clause-app c =
    with_four _ _ _ _ _ _ _ _ _ _ _ _ _ c.folder.ensures.rule c.sync.ensures.rule c.keep.ensures.rule c.read_only.ensures.rule
    c.in_ok-command.ensures.app c.in_ok-command-2.ensures.app c.in_ok-command-3.ensures.app c.in_ok-command-4.ensures.app

pub returns-clause-local : goal.returns-clause-local
returns-clause-local c = c.in_ok-command-4.ensures.local ∙ c.in_ok-command-3.ensures.local ∙ c.in_ok-command-2.ensures.local ∙ c.in_ok-command.ensures.local
