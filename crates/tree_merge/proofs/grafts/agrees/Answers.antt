use Rattle.std.proofs.Common.{◌∙◌, sym, ap}
use Rattle.std.specs.Prelude.{unwrap_or, option_copied}
use Rattle.model.specs.Map.{empty}
use Rattle.model.specs.TreeChange.{agrees}
use Rattle.tree_merge.proofs.Agreement.{agrees_empty}
use Rattle.tree_merge.proofs.grafts.agrees.Goals as goal

pub returns-in_default : goal.returns-in_default
returns-in_default c = sym (agrees_empty c.args.path.now) ∙ ap (λ o. agrees (unwrap_or (option_copied o) empty) c.args.path.now) (sym c.in_default.is)
