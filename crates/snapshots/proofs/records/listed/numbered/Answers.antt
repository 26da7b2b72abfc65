use Rattle.std.proofs.Common.{List, ◌∷◌, [], ◌++◌, ap, arith, length, sym, ◌∙◌}
use Rattle.std.proofs.lemmas.Bool.{true≢false}
use Rattle.std.proofs.lemmas.Iterator.Adapters.{YieldsList-from_vec}
use Rattle.std.proofs.lemmas.Iterator.Consumers.{YieldsList-so_far, YieldsList-turn}
use Rattle.std.proofs.lemmas.List.{map-id}
use Rattle.model.specs.Command.{Id}
use Rattle.model.specs.Database.{Record}
use Rattle.model.specs.Map.{entries}
use Rattle.snapshots.specs.Listing.{Listing}
use Rattle.snapshots.proofs.Documents.{entries-next, has_room, is_new}
use Rattle.snapshots.proofs.records.listed.numbered.Goals as goal

pub loop-id-preserved : goal.loop-id-preserved
loop-id-preserved c =
    let items : List (Id × Record) = c.args.documents.items in
    let e : Id × Record = (c.in-Some.id, c.in-Some.stored) in
    let long = c.args.documents.ok.0 in
    let road = YieldsList-from_vec items (cc) cc in
    let t = YieldsList-turn road c.loop-id.yielded c.loop-id.id-iterator c.loop-id.yielded_by _ c.next.new.self e c.in-Some.is c.next.ensures.steps in
    let so_far = sym (map-id c.loop-id.yielded) ∙ YieldsList-so_far road c.loop-id.yielded c.loop-id.id-iterator c.loop-id.yielded_by in
    record {
      docs = ap (λ (l : Listing). entries l.docs) c.in_ok-records.ensures
          ∙ entries-next items c.requires (length c.loop-id.yielded) e t.0 t.1 c.loop-id.records.docs (c.loop-id.invariant.docs ∙ so_far)
          ∙ ap (λ (es : List (Id × Record)). es ++ e ∷ []) (sym so_far);
      seq = ap (λ (l : Listing). l.update_seq) c.in_ok-records.ensures ∙ c.loop-id.invariant.seq;
    }

pub put-requires-clause-number : goal.put-requires-clause-number
put-requires-clause-number c =
    let free = c.is_free.ensures.0 c.if-not-is_free.false in
    (omega (arith, free.0, c.seq.ensures), omega (arith, free.1, c.seq.ensures))

pub put-requires-clause-free : goal.put-requires-clause-free
put-requires-clause-free c other r at same =
    let free = c.is_free.ensures.0 c.if-not-is_free.false in
    absurd (free.2 other r at (same ∙ sym c.seq.ensures))

pub returns-then-not-is_free : goal.returns-then-not-is_free
returns-then-not-is_free c =
    let items : List (Id × Record) = c.args.documents.items in
    let e : Id × Record = (c.in-Some.id, c.in-Some.stored) in
    let long = c.args.documents.ok.0 in
    let road = YieldsList-from_vec items (cc) cc in
    let t = YieldsList-turn road c.loop-id.yielded c.loop-id.id-iterator c.loop-id.yielded_by _ c.next.new.self e c.in-Some.is c.next.ensures.steps in
    let so_far = sym (map-id c.loop-id.yielded) ∙ YieldsList-so_far road c.loop-id.yielded c.loop-id.id-iterator c.loop-id.yielded_by in
    let k = length c.loop-id.yielded in
    let docs = c.loop-id.records.docs in
    record {
      made = tt;
      none = λ all whole num none.
          let room = has_room items c.requires k e t.0 t.1 docs (c.loop-id.invariant.docs ∙ so_far) all whole c.args.update_seq num in
          let new = is_new items c.requires k e t.0 t.1 docs (c.loop-id.invariant.docs ∙ so_far) all whole c.args.update_seq num in
          let free = c.is_free.ensures.1 (omega (arith, room.0, c.seq.ensures), omega (arith, room.1, c.seq.ensures, c.loop-id.invariant.seq), λ id r at same. new id r at (same ∙ c.seq.ensures)) in
          true≢false (sym free ∙ c.if-not-is_free.true);
    }
