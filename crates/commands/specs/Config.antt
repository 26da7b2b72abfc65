-- A configuration's numbers in the model's terms.
use Rattle.model.specs.World.{Config}
use Rattle.commands.specs.declared.config.Limits.{Limits}

abbrev pub config_of : Limits → Config
config_of l = record { sessions = l.sessions; queue = l.queue; gather = l.gather; slice = l.slice; slack = l.slack; tries = l.tries; max_places = l.max_places }

abbrev pub limits_of : Config → Limits
limits_of c = record { sessions = c.sessions; queue = c.queue; gather = c.gather; slice = c.slice; slack = c.slack; tries = c.tries; max_places = c.max_places }
