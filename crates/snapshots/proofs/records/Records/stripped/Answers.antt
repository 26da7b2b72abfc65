use Rattle.std.specs.Prelude.{◌≡◌, List, map, length}
use Rattle.std.specs.Map.Iter.{deref_pair}
use Rattle.std.proofs.Common.{ap, sym, subst, ◌∙◌, arith}
use Rattle.std.proofs.lemmas.Iterator.Consumers.{YieldsList-from_rest, YieldsList-turn, YieldsList-end}
use Rattle.model.specs.Map.{put, empty, entries}
use Rattle.model.specs.Command.{Id}
use Rattle.model.specs.Database.{Database, Record, IsNumbered, stripped}
use Rattle.snapshots.specs.Listing.{Listing, database_of}
use Rattle.snapshots.specs.Taken.{taken_all}
use Rattle.snapshots.proofs.Taken.{taken-each, taken-step, IsCoherent-step, walked-there, map-push, free-there}
use Rattle.snapshots.proofs.records.Records.stripped.Goals as goal

pub put-requires-clause-number : goal.put-requires-clause-number
put-requires-clause-number c =
    let d : Database = database_of c.args.self.now in
    let num : IsNumbered d = subst (λ (l : Listing). IsNumbered (database_of l)) c.self.view_is c.self.invariant.numbers in
    let t = YieldsList-turn (YieldsList-from_rest {shows = deref_pair} (entries d.docs) cc) c.loop-id.yielded _ c.loop-id.yielded_by _ _ (c.in-Some.id, c.in-Some.stored) c.in-Some.is c.next.ensures.steps in
    let there = walked-there d.docs (c.in-Some.id.now, c.in-Some.stored.now) (length c.loop-id.yielded) t.0 t.1 in
    let w = num.within c.in-Some.id.now c.in-Some.stored.now there in
    let made = c.in_ok-stripped.ensures ∙ ap stripped c.get.ensures in
    (omega (arith, w, ap (λ (r : Record). r.seq) made), omega (arith, w, ap (λ (r : Record). r.seq) made, c.loop-id.invariant.seq))

pub put-requires-clause-free : goal.put-requires-clause-free
put-requires-clause-free c other r has same =
    let d : Database = database_of c.args.self.now in
    let num : IsNumbered d = subst (λ (l : Listing). IsNumbered (database_of l)) c.self.view_is c.self.invariant.numbers in
    let t = YieldsList-turn (YieldsList-from_rest {shows = deref_pair} (entries d.docs) cc) c.loop-id.yielded _ c.loop-id.yielded_by _ _ (c.in-Some.id, c.in-Some.stored) c.in-Some.is c.next.ensures.steps in
    let there = walked-there d.docs (c.in-Some.id.now, c.in-Some.stored.now) (length c.loop-id.yielded) t.0 t.1 in
    let made = c.in_ok-stripped.ensures ∙ ap stripped c.get.ensures in
    free-there c.loop-id.copied.docs d c.loop-id.invariant.coherent num c.in-Some.id.now c.in-Some.stored.now there other r has (same ∙ ap (λ (x : Record). x.seq) made)

pub loop-id-preserved : goal.loop-id-preserved
loop-id-preserved c =
    let d : Database = database_of c.args.self.now in
    let num : IsNumbered d = subst (λ (l : Listing). IsNumbered (database_of l)) c.self.view_is c.self.invariant.numbers in
    let t = YieldsList-turn (YieldsList-from_rest {shows = deref_pair} (entries d.docs) cc) c.loop-id.yielded _ c.loop-id.yielded_by _ _ (c.in-Some.id, c.in-Some.stored) c.in-Some.is c.next.ensures.steps in
    let there = walked-there d.docs (c.in-Some.id.now, c.in-Some.stored.now) (length c.loop-id.yielded) t.0 t.1 in
    let made = c.in_ok-stripped.ensures ∙ ap stripped c.get.ensures in
    let ids = map (λ (e : Id × Record). e.0) (map deref_pair c.loop-id.yielded) in
    let docs = c.loop-id.copied.docs in
    let more : c.in_ok-copied.copied.docs ≡ put docs c.in-Some.id.now (stripped c.in-Some.stored.now) = ap (λ (l : Listing). l.docs) c.in_ok-copied.ensures ∙ ap (λ (r : Record). put docs c.in-Some.id.now r) made in
    record {
      docs = taken-step docs c.in_ok-copied.copied.docs d ids c.in-Some.id.now c.in-Some.stored.now c.loop-id.invariant.docs there more ∙ ap (taken_all empty d) (sym (map-push (λ (e : Id × Record). e.0) deref_pair c.loop-id.yielded (c.in-Some.id, c.in-Some.stored)));
      seq = ap (λ (l : Listing). l.update_seq) c.in_ok-copied.ensures ∙ c.loop-id.invariant.seq;
      coherent = IsCoherent-step docs c.in_ok-copied.copied.docs d ids c.in-Some.id.now c.in-Some.stored.now c.loop-id.invariant.docs there more c.loop-id.invariant.coherent num;
    }

pub returns : goal.returns
returns c =
    let d : Database = database_of c.args.self.now in
    let t = YieldsList-end (YieldsList-from_rest {shows = deref_pair} (entries d.docs) cc) c.loop-id.yielded _ c.loop-id.yielded_by _ _ c.in-None.is c.next.ensures.steps in
    let docs = c.loop-id.invariant.docs ∙ ap (λ (es : List (Id × Record)). taken_all empty d (map (λ e. e.0) es)) t.0 ∙ taken-each d in
    λ i. record { docs = docs i; update_seq = c.loop-id.invariant.seq i }
