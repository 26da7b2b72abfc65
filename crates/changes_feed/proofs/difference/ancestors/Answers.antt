-- A document that is not known has no leaves.
use Rattle.std.specs.Prelude.{option_copied}
use Rattle.std.proofs.Common.{sym, ap, ◌∙◌}
use Rattle.changes_feed.specs.Lacking.{ancestors_of, known_tree}
use Rattle.changes_feed.proofs.LackLists.{ancestors-empty}
use Rattle.changes_feed.proofs.difference.ancestors.Goals as goal

pub returns-in-None : goal.returns-in-None
returns-in-None c = c.new.ensures.items
    ∙ ancestors-empty c.args.generation
    ∙ ap (λ t. ancestors_of c.args.generation (known_tree (option_copied t))) (sym c.in-None.is)
