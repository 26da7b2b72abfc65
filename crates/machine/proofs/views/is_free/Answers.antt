use Rattle.std.proofs.Common.{◌∙◌, sym, ap}
use Rattle.std.specs.Prelude.{Some}
use Rattle.std.proofs.lemmas.Option.{slice_get-get_or, slice_get_past}
use Rattle.machine.specs.declared.views.SessionView.{SessionView}
use Rattle.machine.proofs.Kept.{free_found, free_missing}
use Rattle.machine.proofs.views.is_free.Goals as goal

pub returns-in-Some : goal.returns-in-Some
returns-in-Some c =
    let vs = c.args.views.now in
    let n = c.args.session in
    let x = c.in-Some.view.now in
    free_found vs n x (ap (λ (v : SessionView). Some v) c.in-Some.ensures.lookup.1 ∙ sym (slice_get-get_or vs n x c.in-Some.ensures.lookup.3.0))

pub returns-in-None : goal.returns-in-None
returns-in-None c = free_missing c.args.views.now c.args.session (sym (slice_get_past c.args.views.now c.args.session c.in-None.ensures.lookup.3))
