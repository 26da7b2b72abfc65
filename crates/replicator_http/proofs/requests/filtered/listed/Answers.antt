-- One id more, and at the end all.
use Rattle.std.proofs.Common.{[], ◌∷◌, ◌++◌, sym, ◌∙◌}
use Rattle.std.specs.Map.Iter.{deref}
use Rattle.std.proofs.lemmas.List.{map-append}
use Rattle.std.proofs.lemmas.Iterator.Consumers.{YieldsList-from_rest, YieldsList-end}
use Rattle.replicator_http.proofs.requests.filtered.listed.Goals as goal

pub loop-id-preserved : goal.loop-id-preserved
loop-id-preserved c =
    c.in_ok-push.ensures.items
    ∙ (λ i. c.loop-id.invariant i ++ c.in_ok-share.ensures.same i ∷ [])
    ∙ sym (map-append deref c.loop-id.yielded (c.in-Some.id ∷ []))

pub returns : goal.returns
returns c =
    let t = YieldsList-end (YieldsList-from_rest {shows = deref} c.args.ids.now cc) c.loop-id.yielded _ c.loop-id.yielded_by _ _ c.in-None.is c.next.ensures.steps in
    c.loop-id.invariant ∙ t.0
