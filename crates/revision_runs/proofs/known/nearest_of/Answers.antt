use Rattle.revision_runs.proofs.known.nearest_of.Goals as goal

pub unreachable-requires : goal.unreachable-requires
unreachable-requires c = c.nearest_under.ensures.none c.in_default.is c.requires.0 c.requires.1
