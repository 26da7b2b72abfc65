use Rattle.std.proofs.Common.{◌≡◌, ◌∷◌, T, arith, rules, subst, sym}
use Rattle.std.specs.FinMap.Entries.{is_sorted}
use Rattle.std.specs.declared.cmp.Ordering.TheVariants.{Less}
use Rattle.model.specs.Command.{names}
use Rattle.document_id.proofs.Ascending.{rises-rest, rises-cons}
use Rattle.document_id.proofs.Steps.{drop_at}
use Rattle.document_id.proofs.rising.ids_rise.Goals as goal

pub loop-entry-preserved : goal.loop-entry-preserved
loop-entry-preserved g c =
    let e = drop_at c.in-Some.rest.now c.loop-entry.entry-index c.entry-item.result (omega arith) c.entry-item.is in
    let last = c.loop-entry.last.now in
    let below : names.cmp last.0 c.entry-item.result.0 ≡ Less = search rules in (
      λ p. rises-rest last c.entry-item.result _ (subst (λ r. T (is_sorted names.cmp (last ∷ r))) e (c.loop-entry.invariant.0 p)),
      λ p. c.loop-entry.invariant.1 (subst (λ r. T (is_sorted names.cmp (last ∷ r))) (sym e) (rises-cons last c.entry-item.result _ below p)),
    )
