-- One more look-up at the root.
use Rattle.std.specs.Prelude.{◌≡◌, ◌++◌, ◌∷◌, [], List, Option, map}
use Rattle.std.specs.Map.Iter.{deref}
use Rattle.std.proofs.Common.{ap, sym, ◌∙◌}
use Rattle.std.proofs.lemmas.List.{map-append}
use Rattle.std.proofs.lemmas.Iterator.Consumers.{YieldsList-from_rest, YieldsList-end}
use Rattle.model.specs.Map.{get, get-from_list}
use Rattle.model.specs.Command.{Id, names}
use Rattle.model.specs.Database.{Database, Record}
use Rattle.snapshots.specs.Listing.{Listing, database_of}
use Rattle.snapshots.proofs.LookUps.{look_up, look_ups-next}
use Rattle.snapshots.proofs.records.Records.look_ups.Goals as goal

pub loop-id-preserved : goal.loop-id-preserved
loop-id-preserved c =
    let d : Database = database_of c.args.self.now in
    let ids : List Id = map deref c.loop-id.yielded in
    let id : Id = c.in-Some.id.now in
    let got : c.look_up.result ≡ look_up d id =
    c.look_up.ensures ∙ ap (λ (o : Option Record). (id, o)) (sym (get-from_list names c.self.inside.by_id.entries id) ∙ ap (λ (l : Listing). get l.docs id) c.self.view_is) in
    c.in_ok-push.ensures.items
    ∙ ap (λ (e : Id × Option Record). c.loop-id.look_ups.items ++ e ∷ []) got
    ∙ look_ups-next d ids id c.loop-id.look_ups.items c.loop-id.invariant
    ∙ ap (map (look_up d)) (sym (map-append deref c.loop-id.yielded (c.in-Some.id ∷ [])))

pub returns : goal.returns
returns c =
    let d : Database = database_of c.args.self.now in
    let t = YieldsList-end (YieldsList-from_rest {shows = deref} c.args.ids.now cc) c.loop-id.yielded _ c.loop-id.yielded_by _ _ c.in-None.is c.next.ensures.steps in
    c.loop-id.invariant ∙ ap (map (look_up d)) t.0
