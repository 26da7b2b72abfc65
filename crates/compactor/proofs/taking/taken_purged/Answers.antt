use Rattle.std.specs.Prelude.{ℕ, List, map}
use Rattle.std.specs.Map.Iter.{deref_pair}
use Rattle.std.proofs.Common.{ap, sym, ◌∙◌, arith, subst}
use Rattle.std.proofs.lemmas.List.{length_push}
use Rattle.std.proofs.lemmas.Iterator.{YieldsList-from_take}
use Rattle.std.proofs.lemmas.Iterator.Consumers.{YieldsList-from_rest, YieldsList-end}
use Rattle.model.specs.Database.{Database}
use Rattle.model.specs.History.{now}
use Rattle.model.specs.PurgeLog.{PurgeLog, purges_since}
use Rattle.model.specs.Compaction.{Marks, Touched, WasPurged, of_purge, passed, touched_id}
use Rattle.purge.specs.Log.{PurgedEntry, info_of}
use Rattle.snapshots.specs.Listing.{Listing}
use Rattle.snapshots.specs.Taken.{taken_all, IsCoherent}
use Rattle.snapshots.proofs.Taken.{IsCoherent-taken}
use Rattle.compactor.proofs.FirstTouched.{taken-more, passed-more, purges-push, purges-taken}
use Rattle.compactor.proofs.taking.taken_purged.Goals as goal

pub loop-number-preserved : goal.loop-number-preserved
loop-number-preserved c =
    let d : Database = now c.args.version.now in
    let ts : List Touched = map of_purge (map info_of (map deref_pair c.loop-number.yielded)) in
    let t : Touched = WasPurged c.in-Some.number.now c.in-Some.purged.now.0 in
    let more = purges-push deref_pair c.loop-number.yielded (c.in-Some.number, c.in-Some.purged) in
    let m : Marks = record { update = c.args.taken.update_mark; purge = c.args.taken.purge_mark } in
    record {
      taken = taken-more ts _ t more c.args.taken.records c.loop-number.records c.in_ok-records.records d c.id.result.now c.loop-number.invariant.taken c.id.ensures c.in_ok-records.ensures.taken;
      marks = passed-more ts _ t more m (record { update = c.args.taken.update_mark; purge = c.loop-number.purge_mark }) c.loop-number.invariant.marks;
      coherent = subst (λ (l : Listing). IsCoherent l.docs d) (sym c.in_ok-records.ensures.taken) (IsCoherent-taken c.loop-number.records.docs d c.loop-number.invariant.coherent c.place-recalled.ensures.history.database.numbered c.id.result.now);
      visits = omega (arith, c.in_ok-records.ensures.counted, c.loop-number.invariant.visits, length_push c.loop-number.yielded (c.in-Some.number, c.in-Some.purged));
    }

pub returns-clause-taken : goal.returns-clause-taken
returns-clause-taken c =
    let d : Database = now c.args.version.now in
    let t = YieldsList-end (YieldsList-from_take {s = c.into_iter-number-iterator.result} c.args.n (YieldsList-from_rest {shows = deref_pair} c.above.result cc) cc) c.loop-number.yielded _ c.loop-number.yielded_by _ _ c.in-None.is c.next.ensures.steps in
    c.loop-number.invariant.taken
    ∙ ap (λ (ts : List Touched). record c.args.taken.records { docs = taken_all c.args.taken.records.docs d (map touched_id ts) })
    (ap (λ (es : List (ℕ × PurgedEntry)). map of_purge (map info_of es)) t.0 ∙ purges-taken c.args.n c.above.result (purges_since d.purges c.args.taken.purge_mark) (c.above.ensures.rest ∙ ap (λ (l : PurgeLog). purges_since l c.args.taken.purge_mark) c.purges-log.ensures.log ∙ ap (λ (e : Database). purges_since e.purges c.args.taken.purge_mark) c.database.ensures))

pub returns-clause-marks : goal.returns-clause-marks
returns-clause-marks c =
    let d : Database = now c.args.version.now in
    let t = YieldsList-end (YieldsList-from_take {s = c.into_iter-number-iterator.result} c.args.n (YieldsList-from_rest {shows = deref_pair} c.above.result cc) cc) c.loop-number.yielded _ c.loop-number.yielded_by _ _ c.in-None.is c.next.ensures.steps in
    let m : Marks = record { update = c.args.taken.update_mark; purge = c.args.taken.purge_mark } in
    c.loop-number.invariant.marks
    ∙ ap (passed m) (ap (λ (es : List (ℕ × PurgedEntry)). map of_purge (map info_of es)) t.0 ∙ purges-taken c.args.n c.above.result (purges_since d.purges c.args.taken.purge_mark) (c.above.ensures.rest ∙ ap (λ (l : PurgeLog). purges_since l c.args.taken.purge_mark) c.purges-log.ensures.log ∙ ap (λ (e : Database). purges_since e.purges c.args.taken.purge_mark) c.database.ensures))
