use Rattle.std.proofs.Common.{◌≡◌, ◌∷◌, T, arith, rules, subst, sym}
use Rattle.std.specs.FinMap.Entries.{is_sorted}
use Rattle.std.specs.declared.cmp.Ordering.TheVariants.{Less}
use Rattle.model.specs.Command.{names}
use Rattle.commands.proofs.Rising.{rises-rest, rises-cons}
use Rattle.commands.proofs.Steps.{drop_at}
use Rattle.commands.proofs.named.ids_rise.Goals as goal

pub loop-document-preserved : goal.loop-document-preserved
loop-document-preserved c =
    let e = drop_at c.in-Some.rest.now c.loop-document.document-index c.document-item.result (omega arith) c.document-item.is in
    let last = c.loop-document.last.now in
    let below : names.cmp last.0 c.document-item.result.0 ≡ Less = search rules in (
      λ p. rises-rest last c.document-item.result _ (subst (λ r. T (is_sorted names.cmp (last ∷ r))) e (c.loop-document.invariant.0 p)),
      λ p. c.loop-document.invariant.1 (subst (λ r. T (is_sorted names.cmp (last ∷ r))) (sym e) (rises-cons last c.document-item.result _ below p)),
    )
