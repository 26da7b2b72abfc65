-- A wanted change goes last, and another one is passed over.
use Rattle.std.specs.Prelude.{◌∷◌, ◌++◌, [], Bool, List, Some, true, false, length, filter}
use Rattle.std.specs.Ordering.{nat_cmp}
use Rattle.std.specs.FinMap.Entries.{put}
use Rattle.std.specs.Map.Iter.{deref_pair}
use Rattle.std.proofs.Common.{ap, sym, ◌∙◌}
use Rattle.std.proofs.lemmas.Iterator.Consumers.{YieldsList-from_rest, YieldsList-so_far, YieldsList-turn, YieldsList-end}
use Rattle.model.specs.Database.{Database}
use Rattle.model.specs.Changes.{changed_since, every_id, wanted_by}
use Rattle.model.proofs.RowLaws.{above_since}
use Rattle.model.proofs.TouchedLaws.{Update}
use Rattle.snapshots.specs.Listing.{database_of}
use Rattle.snapshots.proofs.Among.{changed-wanted, filter-next, put-next}
use Rattle.snapshots.proofs.records.Records.walked.Goals as goal

pub loop-seq-preserved-then-contains : goal.loop-seq-preserved-then-contains
loop-seq-preserved-then-contains c =
    let d : Database = database_of c.args.self.now in
    let wanted : Update → Bool = λ e. wanted_by (Some c.args.ids.now) e.1.0 in
    let all : List Update = changed_since every_id d c.args.since in
    let runs = YieldsList-from_rest {shows = deref_pair} all cc in
    let e : Update = (c.in-Some.seq.now, c.in-Some.document.now) in
    let so_far = YieldsList-so_far runs c.loop-seq.yielded _ c.loop-seq.yielded_by in
    let t = YieldsList-turn runs c.loop-seq.yielded _ c.loop-seq.yielded_by _ _ (c.in-Some.seq, c.in-Some.document) c.in-Some.is c.next.ensures.steps in
    c.in_ok-changed.ensures
    ∙ ap (put nat_cmp e.0 e.1) (c.loop-seq.invariant ∙ ap (filter wanted) so_far)
    ∙ put-next wanted c.args.since (length c.loop-seq.yielded) all e (above_since every_id d c.args.since) t.0 t.1
    ∙ ap (λ es. filter wanted es ++ e ∷ []) (sym so_far)
    ∙ sym (filter-next wanted deref_pair c.loop-seq.yielded (c.in-Some.seq, c.in-Some.document) true (sym c.contains.ensures ∙ c.if-contains.true))

pub loop-seq-preserved : goal.loop-seq-preserved
loop-seq-preserved c =
    c.loop-seq.invariant
    ∙ sym (filter-next (λ (e : Update). wanted_by (Some c.args.ids.now) e.1.0) deref_pair c.loop-seq.yielded (c.in-Some.seq, c.in-Some.document) false (sym c.contains.ensures ∙ c.if-contains.false))

pub returns : goal.returns
returns c =
    let d : Database = database_of c.args.self.now in
    let all : List Update = changed_since every_id d c.args.since in
    let wanted : Update → Bool = λ e. wanted_by (Some c.args.ids.now) e.1.0 in
    let t = YieldsList-end (YieldsList-from_rest {shows = deref_pair} all cc) c.loop-seq.yielded _ c.loop-seq.yielded_by _ _ c.in-None.is c.next.ensures.steps in
    c.loop-seq.invariant ∙ ap (filter wanted) t.0 ∙ changed-wanted d c.args.since (wanted_by (Some c.args.ids.now))
