use Rattle.std.specs.Prelude.{◌≡◌, ◌-◌, length, drop, zero}
use Rattle.std.proofs.Common.{ap, ◌∙◌, arith}
use Rattle.model.specs.Lists.{last_few}
use Rattle.model.proofs.LogLaws.{IsLog-logged, IsLog-limited, last_few-fewer}
use Rattle.model.proofs.databases.log_keeps_the_newest.Goals as goal

pub returns-clause-kept : goal.returns-clause-kept
returns-clause-kept c l id leaves = IsLog-logged l id leaves

pub returns-clause-limited : goal.returns-clause-limited
returns-clause-limited c l n = IsLog-limited l n

pub returns-clause-cut : goal.returns-clause-cut
returns-clause-cut c l all n newest le = ap (last_few n) newest ∙ last_few-fewer n l.limit all le

pub returns-clause-none_back : goal.returns-clause-none_back
returns-clause-none_back c l n le = let none : length l.infos - n ≡ zero = omega (arith, le) in ap (λ k. drop k l.infos) none
