use Rattle.revision_tree.proofs.Trimmed.{whole_without}
use Rattle.revision_tree.proofs.trim.stays.Goals as goal

pub returns : goal.returns
returns c = λ e. whole_without c.args.rev c.args.child c.args.nodes.now c.requires.children (c.is_apart.ensures c.if-not-is_apart.false) (c.is_apart-2.ensures e)
