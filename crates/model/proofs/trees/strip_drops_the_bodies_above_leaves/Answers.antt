use Rattle.model.proofs.StripLaws.{knows-strip, parent_of-strip, is_deleted-strip, body_of-strip, leaves-strip, strip-strip}
use Rattle.model.proofs.trees.strip_drops_the_bodies_above_leaves.Goals as goal

pub returns-clause-known : goal.returns-clause-known
returns-clause-known c = knows-strip

pub returns-clause-parents : goal.returns-clause-parents
returns-clause-parents c = parent_of-strip

pub returns-clause-flags : goal.returns-clause-flags
returns-clause-flags c = is_deleted-strip

pub returns-clause-bodies : goal.returns-clause-bodies
returns-clause-bodies c = body_of-strip

pub returns-clause-leaves : goal.returns-clause-leaves
returns-clause-leaves c = leaves-strip

pub returns-clause-twice : goal.returns-clause-twice
returns-clause-twice c = strip-strip
