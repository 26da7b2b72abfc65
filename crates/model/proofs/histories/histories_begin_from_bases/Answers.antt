use Rattle.model.proofs.BaseLaws.{IsBase-empty, IsBase-successor}
use Rattle.model.proofs.histories.histories_begin_from_bases.Goals as goal

pub returns-clause-empty : goal.returns-clause-empty
returns-clause-empty c = IsBase-empty

pub returns-clause-successor : goal.returns-clause-successor
returns-clause-successor c = IsBase-successor
