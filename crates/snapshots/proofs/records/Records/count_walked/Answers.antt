-- One more, where a wanted change comes.
use Rattle.std.specs.Prelude.{Bool, List, Some, length, filter}
use Rattle.std.specs.Map.Iter.{deref_pair}
use Rattle.std.proofs.Common.{◌+◌, ap, sym, ◌∙◌, arith}
use Rattle.std.proofs.lemmas.List.{length_push}
use Rattle.std.proofs.lemmas.Iterator.Consumers.{YieldsList-from_rest, YieldsList-turn, YieldsList-end}
use Rattle.model.specs.Database.{Database}
use Rattle.model.specs.Changes.{changed_since, every_id, wanted_by}
use Rattle.model.proofs.TouchedLaws.{Update}
use Rattle.snapshots.specs.Listing.{database_of}
use Rattle.snapshots.proofs.Among.{changed-wanted, one_at_most, wanted-next}
use Rattle.snapshots.proofs.records.Records.count_walked.Goals as goal

pub overflow_add-count : goal.overflow_add-count
overflow_add-count c =
    let all : List Update = changed_since every_id (database_of c.args.self.now) c.args.since in
    let t = YieldsList-turn (YieldsList-from_rest {shows = deref_pair} all cc) c.loop-seq.yielded _ c.loop-seq.yielded_by _ _ (c.in-Some._seq, c.in-Some.document) c.in-Some.is c.next.ensures.steps in
    omega (arith, t.0, c.changed_since-seq-items.ensures.fits, ap (λ (es : List Update). length es) c.changed_since-seq-items.ensures.rest, c.loop-seq.invariant.few, c.from-count.ensures, one_at_most c.contains.result)

pub loop-seq-preserved : goal.loop-seq-preserved
loop-seq-preserved c = record {
  counted = ap (λ n. c.loop-seq.count + n) c.from-count.ensures
      ∙ wanted-next (λ (e : Update). wanted_by (Some c.args.ids.now) e.1.0) deref_pair c.loop-seq.yielded (c.in-Some._seq, c.in-Some.document) c.contains.result (sym c.contains.ensures) c.loop-seq.count c.loop-seq.invariant.counted;
  few = omega (arith, c.loop-seq.invariant.few, c.from-count.ensures, one_at_most c.contains.result, length_push c.loop-seq.yielded (c.in-Some._seq, c.in-Some.document));
}

pub returns : goal.returns
returns c =
    let d : Database = database_of c.args.self.now in
    let all : List Update = changed_since every_id d c.args.since in
    let wanted : Update → Bool = λ e. wanted_by (Some c.args.ids.now) e.1.0 in
    let t = YieldsList-end (YieldsList-from_rest {shows = deref_pair} all cc) c.loop-seq.yielded _ c.loop-seq.yielded_by _ _ c.in-None.is c.next.ensures.steps in
    c.loop-seq.invariant.counted ∙ ap (λ (es : List Update). length (filter wanted es)) t.0 ∙ ap (λ (es : List Update). length es) (changed-wanted d c.args.since (wanted_by (Some c.args.ids.now)))
