use Rattle.std.proofs.Common.{refl, inr}
use Rattle.command_line.proofs.faults.fault.Goals as goal

pub returns-then-eq-2-clause-version : goal.returns-then-eq-2-clause-version
returns-then-eq-2-clause-version c = λ _. inr refl
