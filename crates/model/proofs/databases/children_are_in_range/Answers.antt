use Rattle.model.proofs.IdentityLaws.{IsRev-child}
use Rattle.model.proofs.databases.children_are_in_range.Goals as goal

pub returns : goal.returns
returns c = record { child = IsRev-child }
