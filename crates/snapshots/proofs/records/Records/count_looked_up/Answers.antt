-- One more, where the document that is looked at has changed.
use Rattle.std.specs.Prelude.{◌≡◌, ◌∷◌, [], List, Some, false, length, map, option_copied}
use Rattle.std.specs.Int.{from_bool}
use Rattle.std.specs.List.{list_any}
use Rattle.std.specs.Map.Iter.{deref}
use Rattle.std.proofs.Common.{◌+◌, ap, sym, subst, ◌∙◌, arith}
use Rattle.std.proofs.lemmas.List.{length_push, map-append}
use Rattle.std.proofs.lemmas.Iterator.Consumers.{YieldsList-from_rest, YieldsList-so_far, YieldsList-turn, YieldsList-end}
use Rattle.model.specs.Map.{get, get-from_list, same_key}
use Rattle.model.specs.Command.{Id, names}
use Rattle.model.specs.Database.{Database, IsNumbered}
use Rattle.model.specs.Changes.{changed_since, wanted_by}
use Rattle.snapshots.specs.Among.{is_above}
use Rattle.snapshots.specs.Listing.{Listing, database_of}
use Rattle.snapshots.proofs.Among.{changed-none, counted-next, not_yet, one_at_most}
use Rattle.snapshots.proofs.records.Records.count_looked_up.Goals as goal

pub loop-id-init : goal.loop-id-init
loop-id-init c = record { counted = ap length (sym (changed-none (database_of c.args.self.now) c.args.since)); few = omega arith }

pub overflow_add-count : goal.overflow_add-count
overflow_add-count c =
    let runs = YieldsList-from_rest {shows = deref} c.args.ids.now cc in
    let t = YieldsList-turn runs c.loop-id.yielded _ c.loop-id.yielded_by _ _ c.in-Some.id c.in-Some.is c.next.ensures.steps in
    omega (arith, t.0, c.iter-id-items.ensures.fits, ap (λ (qs : List Id). length qs) c.iter-id-items.ensures.rest, c.loop-id.invariant.few, c.from-count.ensures, one_at_most c.is_above.result)

pub loop-id-preserved : goal.loop-id-preserved
loop-id-preserved c =
    let d : Database = database_of c.args.self.now in
    let num : IsNumbered d = subst (λ (l : Listing). IsNumbered (database_of l)) c.self.view_is c.self.invariant.numbers in
    let ids : List Id = map deref c.loop-id.yielded in
    let id : Id = c.in-Some.id.now in
    let runs = YieldsList-from_rest {shows = deref} c.args.ids.now cc in
    let so_far = YieldsList-so_far runs c.loop-id.yielded _ c.loop-id.yielded_by in
    let t = YieldsList-turn runs c.loop-id.yielded _ c.loop-id.yielded_by _ _ c.in-Some.id c.in-Some.is c.next.ensures.steps in
    let new : list_any (same_key names id) ids ≡ false = subst (λ qs. list_any (same_key names id) qs ≡ false) (sym so_far) (not_yet c.args.ids.now (length c.loop-id.yielded) id c.iter-id-items.ensures.rising t.0 t.1) in
    let got : option_copied c.get.result ≡ get d.docs id =
    c.get.ensures ∙ sym (get-from_list names c.self.inside.by_id.entries id) ∙ ap (λ (l : Listing). get l.docs id) c.self.view_is in
    record {
      counted = ap (λ n. c.loop-id.count + n) (c.from-count.ensures ∙ ap from_bool (c.is_above.ensures ∙ ap (is_above c.args.since) got))
          ∙ counted-next d num c.args.since ids id new c.loop-id.count c.loop-id.invariant.counted
          ∙ ap (λ qs. length (changed_since (wanted_by (Some qs)) d c.args.since)) (sym (map-append deref c.loop-id.yielded (c.in-Some.id ∷ [])));
      few = omega (arith, c.loop-id.invariant.few, c.from-count.ensures, one_at_most c.is_above.result, length_push c.loop-id.yielded c.in-Some.id);
    }

pub returns : goal.returns
returns c =
    let d : Database = database_of c.args.self.now in
    let t = YieldsList-end (YieldsList-from_rest {shows = deref} c.args.ids.now cc) c.loop-id.yielded _ c.loop-id.yielded_by _ _ c.in-None.is c.next.ensures.steps in
    c.loop-id.invariant.counted ∙ ap (λ (qs : List Id). length (changed_since (wanted_by (Some qs)) d c.args.since)) t.0
