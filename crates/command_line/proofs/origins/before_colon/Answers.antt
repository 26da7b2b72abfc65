use Rattle.std.proofs.Common.{◌∙◌, sym}
use Rattle.command_line.specs.Origins.{is_colon}
use Rattle.command_line.proofs.Positions.{before_none, before_place}
use Rattle.command_line.proofs.origins.before_colon.Goals as goal

pub returns-in-Some-clause-value : goal.returns-in-Some-clause-value
returns-in-Some-clause-value c = before_place is_colon c.args.bytes.now c.in-Some.end (sym c.colon_at.ensures.first ∙ c.in-Some.is)

pub returns-in-None-clause-value : goal.returns-in-None-clause-value
returns-in-None-clause-value c = before_none is_colon c.args.bytes.now (sym c.colon_at.ensures.first ∙ c.in-None.is)
