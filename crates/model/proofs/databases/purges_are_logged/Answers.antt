use Rattle.std.specs.Prelude.{refl}
use Rattle.model.specs.Database.{removed_of, act, changed_by, reply_to}
use Rattle.model.proofs.MapLaws.{get-refine_all}
use Rattle.model.proofs.PurgeLaws.{purge-left, purge-gone, purge-others, removed_before}
use Rattle.model.proofs.databases.purges_are_logged.Goals as goal

pub returns-clause-stays : goal.returns-clause-stays
returns-clause-stays c d id named t some = purge-left d id named some t

pub returns-clause-goes : goal.returns-clause-goes
returns-clause-goes c d id named some = purge-gone d id named some

pub returns-clause-others : goal.returns-clause-others
returns-clause-others c d id other named = purge-others d id named other

pub returns-clause-before : goal.returns-clause-before
returns-clause-before c = removed_before

pub returns-clause-answers : goal.returns-clause-answers
returns-clause-answers c d named id = get-refine_all (removed_of d) named id

pub returns-clause-number : goal.returns-clause-number
unfolding act changed_by reply_to
returns-clause-number c d seat named = refl
