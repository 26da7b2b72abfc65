use Rattle.std.proofs.Common.{◌∙◌, sym}
use Rattle.std.proofs.lemmas.Option.{none-some}
use Rattle.revision_runs.proofs.known.run_of.Goals as goal

pub unreachable-requires : goal.unreachable-requires
unreachable-requires c = none-some c.requires.0 (sym c.in_default.is ∙ c.get.ensures ∙ c.requires.1)
