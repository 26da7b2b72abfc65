use Rattle.std.proofs.Common.{◌∷◌, ◌↔◌, T, drop}
use Rattle.std.specs.FinMap.Entries.{is_sorted}
use Rattle.model.specs.Command.{names}
use Rattle.commands.proofs.named.ids_rise.Given as goal

-- what is left decides
abbrev pub invariant-loop-document : goal.invariant-loop-document
invariant-loop-document l = T (is_sorted names.cmp l.documents) ↔ T (is_sorted names.cmp (l.last ∷ drop l.document-index l.rest))
