use Rattle.revision_runs.proofs.known.top_of.Goals as goal

pub unreachable-requires : goal.unreachable-requires
unreachable-requires c = c.ending_at.ensures.none c.in_default.is c.requires.0 c.requires.1
