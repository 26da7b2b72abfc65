use Rattle.std.specs.Prelude.{ℕ, List, map}
use Rattle.std.specs.Map.Iter.{deref_pair}
use Rattle.std.proofs.Common.{ap, sym, ◌∙◌, arith, subst, refl}
use Rattle.std.proofs.lemmas.List.{length_push}
use Rattle.std.proofs.lemmas.Iterator.{YieldsList-from_take}
use Rattle.std.proofs.lemmas.Iterator.Consumers.{YieldsList-from_rest, YieldsList-end}
use Rattle.model.specs.Command.{Id}
use Rattle.model.specs.Database.{Database, Record}
use Rattle.model.specs.History.{now}
use Rattle.model.specs.Changes.{every_id, changed_since}
use Rattle.model.specs.Compaction.{Marks, Touched, WasUpdated, of_update, passed, touched_id}
use Rattle.snapshots.specs.Listing.{Listing}
use Rattle.snapshots.specs.Taken.{taken_all, IsCoherent}
use Rattle.snapshots.proofs.Taken.{IsCoherent-taken}
use Rattle.compactor.proofs.FirstTouched.{taken-more, passed-more, updates-push}
use Rattle.compactor.proofs.taking.taken_updated.Goals as goal

pub loop-number-preserved : goal.loop-number-preserved
loop-number-preserved c =
    let d : Database = now c.args.version.now in
    let ts : List Touched = map of_update (map deref_pair c.loop-number.yielded) in
    let t : Touched = WasUpdated c.in-Some.number.now c.in-Some.changed.now.0 in
    let more = updates-push deref_pair c.loop-number.yielded (c.in-Some.number, c.in-Some.changed) in
    let m : Marks = record { update = c.args.taken.update_mark; purge = c.args.taken.purge_mark } in
    record {
      taken = taken-more ts _ t more c.args.taken.records c.loop-number.records c.in_ok-records.records d c.in-Some.changed.now.0 c.loop-number.invariant.taken refl c.in_ok-records.ensures.taken;
      marks = passed-more ts _ t more m (record { update = c.loop-number.update_mark; purge = c.args.taken.purge_mark }) c.loop-number.invariant.marks;
      coherent = subst (λ (l : Listing). IsCoherent l.docs d) (sym c.in_ok-records.ensures.taken) (IsCoherent-taken c.loop-number.records.docs d c.loop-number.invariant.coherent c.place-recalled.ensures.history.database.numbered c.in-Some.changed.now.0);
      visits = omega (arith, c.in_ok-records.ensures.counted, c.loop-number.invariant.visits, length_push c.loop-number.yielded (c.in-Some.number, c.in-Some.changed));
    }

pub returns-clause-taken : goal.returns-clause-taken
returns-clause-taken c =
    let d : Database = now c.args.version.now in
    let all = changed_since every_id d c.args.taken.update_mark in
    let t = YieldsList-end (YieldsList-from_take {s = c.into_iter-number-iterator.result} c.args.n (YieldsList-from_rest {shows = deref_pair} all cc) cc) c.loop-number.yielded _ c.loop-number.yielded_by _ _ c.in-None.is c.next.ensures.steps in
    c.loop-number.invariant.taken
    ∙ ap (λ (es : List (ℕ × (Id × Record))). record c.args.taken.records { docs = taken_all c.args.taken.records.docs d (map touched_id (map of_update es)) }) t.0

pub returns-clause-marks : goal.returns-clause-marks
returns-clause-marks c =
    let d : Database = now c.args.version.now in
    let all = changed_since every_id d c.args.taken.update_mark in
    let t = YieldsList-end (YieldsList-from_take {s = c.into_iter-number-iterator.result} c.args.n (YieldsList-from_rest {shows = deref_pair} all cc) cc) c.loop-number.yielded _ c.loop-number.yielded_by _ _ c.in-None.is c.next.ensures.steps in
    let m : Marks = record { update = c.args.taken.update_mark; purge = c.args.taken.purge_mark } in
    c.loop-number.invariant.marks ∙ ap (λ (es : List (ℕ × (Id × Record))). passed m (map of_update es)) t.0
