use Rattle.std.proofs.Common.{◌∙◌, List, ap, sym}
use Rattle.std.specs.Vec.Iter.{into_iter_items}
use Rattle.machine.specs.declared.views.SessionView.{SessionView}
use Rattle.machine.specs.declared.views.Seen.{Seen}
use Rattle.machine.specs.Views.{all_seeing}
use Rattle.machine.proofs.views.see_all.Goals as goal

pub loop-one-preserved : goal.loop-one-preserved
loop-one-preserved c =
    let rest = into_iter_items c.next.new.self in
    ap (λ (vs : List SessionView). all_seeing vs rest) c.see.ensures ∙ ap (λ (ss : List Seen). all_seeing c.loop-one.views.items ss) (sym c.in-Some.ensures.steps.0) ∙ c.loop-one.invariant
