use Rattle.std.specs.Prelude.{Option, unwrap_or}
use Rattle.std.proofs.Common.{ℕ, ap, sym, ◌∙◌}
use Rattle.model.specs.Map.{get-from_list}
use Rattle.model.specs.Command.{numbers}
use Rattle.snapshots.proofs.database.calls.calls_among.Goals as goal

pub returns-in-Some : goal.returns-in-Some
returns-in-Some c = ap (λ (o : Option ℕ). unwrap_or o 0) (c.in-Some.ensures ∙ sym (get-from_list numbers c.args.earlier.now.entries c.args.session))

pub returns-in-None : goal.returns-in-None
returns-in-None c = ap (λ (o : Option ℕ). unwrap_or o 0) (c.in-None.ensures ∙ sym (get-from_list numbers c.args.earlier.now.entries c.args.session))
