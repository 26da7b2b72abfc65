use Rattle.std.proofs.Common.{◌∙◌}
use Rattle.command_line.proofs.Built.{with_one}
use Rattle.command_line.proofs.couchd.Goals as goal

pub returns-clause-app : goal.returns-clause-app
returns-clause-app c =
    let once = with_one _ _ _ _ _ c.program-couchd.ensures.app c.once.ensures.app c.in_ok-couchd.ensures.app in
    let dump = with_one _ _ _ _ _ once c.dump.ensures.app c.in_ok-couchd-2.ensures.app in
    let serve = with_one _ _ _ _ _ dump c.in_ok-serve.ensures.app c.in_ok-couchd-3.ensures.app in
    let replicate = with_one _ _ _ _ _ serve c.in_ok-replicate.ensures.app c.in_ok-couchd-4.ensures.app in
    with_one _ _ _ _ _ replicate c.in_ok-repair.ensures.app c.in_ok-couchd-5.ensures.app

pub returns-clause-local : goal.returns-clause-local
returns-clause-local c =
    c.in_ok-couchd-5.ensures.local ∙ c.in_ok-couchd-4.ensures.local ∙ c.in_ok-couchd-3.ensures.local ∙ c.in_ok-couchd-2.ensures.local ∙ c.in_ok-couchd.ensures.local ∙ c.program-couchd.ensures.local

pub returns-clause-subcommand : goal.returns-clause-subcommand
returns-clause-subcommand c =
    c.in_ok-couchd-5.ensures.required ∙ c.in_ok-couchd-4.ensures.required ∙ c.in_ok-couchd-3.ensures.required ∙ c.in_ok-couchd-2.ensures.required ∙ c.in_ok-couchd.ensures.required ∙ c.program-couchd.ensures.required
