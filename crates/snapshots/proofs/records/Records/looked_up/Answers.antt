-- A look at one more document adds its change.
use Rattle.std.specs.Prelude.{◌≡◌, List, Option, map}
use Rattle.std.proofs.Common.{arith, sym, subst, ◌∙◌}
use Rattle.model.specs.Command.{Id}
use Rattle.model.specs.Database.{Database, Record, IsNumbered}
use Rattle.snapshots.specs.Among.{with_change}
use Rattle.snapshots.specs.Listing.{Listing, database_of}
use Rattle.snapshots.proofs.Among.{changed-none}
use Rattle.snapshots.proofs.LookUps.{changed-all, changed-next, look_up, refilled}
use Rattle.snapshots.proofs.records.Records.looked_up.Goals as goal

pub loop-look_up-init : goal.loop-look_up-init
loop-look_up-init c = c.new-changed.ensures.entries ∙ sym (changed-none (database_of c.args.self.now) c.args.since)

pub loop-look_up-preserved : goal.loop-look_up-preserved
loop-look_up-preserved c =
    let d : Database = database_of c.args.self.now in
    let num : IsNumbered d = subst (λ (l : Listing). IsNumbered (database_of l)) c.self.view_is c.self.invariant.numbers in
    let found : List (Id × Option Record) = c.deref-look_up-items.result.now in
    let same : found ≡ map (look_up d) c.args.ids.now = c.deref-look_up-items.ensures.value ∙ refilled c.in_ok-look_ups.look_ups.len c.in_ok-look_ups.look_ups.items c.descend_each.new.look_ups c.in_ok-look_ups.look_ups.ok.0 (c.descend_each.ensures ∙ c.deref_mut.ensures.value) ∙ c.in_ok-look_ups.ensures in
    let e : Id × Option Record = c.look_up-item.result in
    c.in_ok-changed.ensures
    ∙ (λ i. with_change c.args.since (c.key.ensures i) (c.value.ensures i) (c.loop-look_up.invariant i))
    ∙ changed-next d c.args.ids.now found same num c.args.since c.loop-look_up.look_up-index e (omega arith) c.look_up-item.is

pub returns : goal.returns
returns c =
    let d : Database = database_of c.args.self.now in
    let found : List (Id × Option Record) = c.deref-look_up-items.result.now in
    let same : found ≡ map (look_up d) c.args.ids.now = c.deref-look_up-items.ensures.value ∙ refilled c.in_ok-look_ups.look_ups.len c.in_ok-look_ups.look_ups.items c.descend_each.new.look_ups c.in_ok-look_ups.look_ups.ok.0 (c.descend_each.ensures ∙ c.deref_mut.ensures.value) ∙ c.in_ok-look_ups.ensures in
    c.loop-look_up.invariant ∙ changed-all d c.args.ids.now found same c.args.since c.loop-look_up.look_up-index (omega arith)
