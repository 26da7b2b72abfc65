use Rattle.std.proofs.Common.{◌∷◌, ◌↔◌, All, drop}
use Rattle.model.specs.Revision.{IsRev}
use Rattle.model.specs.TreeChange.{IsPath}
use Rattle.commands.proofs.merge.is_path.Given as goal

-- what is left decides
abbrev pub invariant-loop-rev : goal.invariant-loop-rev
invariant-loop-rev l = record {
  path : IsPath l.path ↔ IsPath (l.newer ∷ drop l.rev-index l.older);
  revs : All IsRev (l.newer ∷ drop l.rev-index l.older) → All IsRev l.path;
}
