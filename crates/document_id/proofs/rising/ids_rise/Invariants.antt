use Rattle.std.proofs.Common.{◌∷◌, ◌↔◌, T, drop}
use Rattle.std.specs.FinMap.Entries.{is_sorted}
use Rattle.model.specs.Command.{names}
use Rattle.document_id.proofs.rising.ids_rise.Given as goal

-- what is left decides
abbrev pub invariant-loop-entry : goal.invariant-loop-entry
invariant-loop-entry g l = T (is_sorted names.cmp l.entries) ↔ T (is_sorted names.cmp (l.last ∷ drop l.entry-index l.rest))
