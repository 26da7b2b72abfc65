use Rattle.std.specs.Prelude.{length, List, Some, None, map, take, drop}
use Rattle.std.specs.Map.Iter.{deref_pair}
use Rattle.std.proofs.Common.{ap, sym, ◌∙◌, arith, subst}
use Rattle.std.proofs.Math.ListN.{length-map}
use Rattle.std.proofs.lemmas.List.{length_push}
use Rattle.std.proofs.lemmas.Iterator.{YieldsList-from_take}
use Rattle.std.proofs.lemmas.Iterator.Consumers.{YieldsList-from_rest, YieldsList-end}
use Rattle.model.specs.Map.{entries}
use Rattle.model.specs.Command.{Id}
use Rattle.model.specs.Database.{Database, Record}
use Rattle.model.specs.History.{now}
use Rattle.snapshots.specs.Listing.{Listing}
use Rattle.snapshots.specs.Taken.{taken_all, ids_of, IsCoherent}
use Rattle.snapshots.proofs.Taken.{IsCoherent-taken, map-push}
use Rattle.compactor.specs.Copy.{last_id}
use Rattle.compactor.proofs.Sliced.{copied-more, last-more, last_id-append, ids-walked, take-drop}
use Rattle.compactor.proofs.slices.sliced.Goals as goal

pub loop-id-preserved : goal.loop-id-preserved
loop-id-preserved c =
    let d : Database = now c.args.version.now in
    let ids : List Id = map (λ e. e.0) (map deref_pair c.loop-id.yielded) in
    let more = map-push (λ (e : Id × Record). e.0) deref_pair c.loop-id.yielded (c.in-Some.id, c.in-Some._stored) in
    record {
      taken = copied-more ids _ c.in-Some.id.now more c.args.part.records c.loop-id.records c.in_ok-records.records d c.loop-id.invariant.taken c.in_ok-records.ensures.taken;
      last = ap Some c.in_ok-share.ensures.same ∙ last-more ids _ c.in-Some.id.now more c.args.part.last;
      coherent = subst (λ (l : Listing). IsCoherent l.docs d) (sym c.in_ok-records.ensures.taken) (IsCoherent-taken c.loop-id.records.docs d c.loop-id.invariant.coherent c.place-recalled.ensures.history.database.numbered c.in-Some.id.now);
      visits = omega (arith, c.in_ok-records.ensures.counted, c.loop-id.invariant.visits, length_push c.loop-id.yielded (c.in-Some.id, c.in-Some._stored));
    }

pub returns-clause-docs : goal.returns-clause-docs
returns-clause-docs c k le is =
    let d : Database = now c.args.version.now in
    let t = YieldsList-end (YieldsList-from_take {s = c.into_iter-id-iterator.result} c.args.n (YieldsList-from_rest {shows = deref_pair} c.rest.result cc) cc) c.loop-id.yielded _ c.loop-id.yielded_by _ _ c.in-None.is c.next.ensures.steps in
    let ids = ap (λ (es : List (Id × Record)). map (λ e. e.0) es) t.0 ∙ ids-walked k c.args.n (entries d.docs) c.rest.result (c.rest.ensures.rest k le is) in
    c.loop-id.invariant.taken ∙ ap (λ is. record c.args.part.records { docs = taken_all c.args.part.records.docs d is }) ids

pub returns-clause-last : goal.returns-clause-last
returns-clause-last c k le is =
    let d : Database = now c.args.version.now in
    let t = YieldsList-end (YieldsList-from_take {s = c.into_iter-id-iterator.result} c.args.n (YieldsList-from_rest {shows = deref_pair} c.rest.result cc) cc) c.loop-id.yielded _ c.loop-id.yielded_by _ _ c.in-None.is c.next.ensures.steps in
    let ids = ap (λ (es : List (Id × Record)). map (λ e. e.0) es) t.0 ∙ ids-walked k c.args.n (entries d.docs) c.rest.result (c.rest.ensures.rest k le is) in
    c.loop-id.invariant.last
    ∙ ap (last_id c.args.part.last) ids
    ∙ ap (λ o. last_id o (take c.args.n (drop k (ids_of d.docs)))) is
    ∙ sym (last_id-append None (take k (ids_of d.docs)) (take c.args.n (drop k (ids_of d.docs))))
    ∙ ap (last_id None) (take-drop k c.args.n (ids_of d.docs))

pub returns-clause-visited : goal.returns-clause-visited
returns-clause-visited c k le is =
    let d : Database = now c.args.version.now in
    let t = YieldsList-end (YieldsList-from_take {s = c.into_iter-id-iterator.result} c.args.n (YieldsList-from_rest {shows = deref_pair} c.rest.result cc) cc) c.loop-id.yielded _ c.loop-id.yielded_by _ _ c.in-None.is c.next.ensures.steps in
    let ids = ids-walked k c.args.n (entries d.docs) c.rest.result (c.rest.ensures.rest k le is) in
    omega (arith, c.loop-id.invariant.visits, t.1, ap length ids, length-map (take c.args.n c.rest.result) (λ (e : Id × Record). e.0))
