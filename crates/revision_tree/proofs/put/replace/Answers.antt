use Rattle.std.proofs.Common.{ap, subst, sym, ◌<◌, length}
use Rattle.revision_tree.proofs.Pieces.{replaced, filled_set}
use Rattle.revision_tree.proofs.put.replace.Goals as goal

pub returns-clause-nodes : goal.returns-clause-nodes
returns-clause-nodes c = replaced c.args.older.now.items c.args.place c.in_ok-older.field-0 c.args.nodes.items c.requires.place (ap (λ v. v.items) c.in_ok-older.ensures.ok)

pub returns-clause-filled : goal.returns-clause-filled
returns-clause-filled c = λ h. filled_set c.args.older.now.items c.args.place c.in_ok-older.field-0 h (subst (λ ns. 0 < length ns) (sym (ap (λ v. v.items) c.in_ok-older.ensures.ok)) c.requires.some)
