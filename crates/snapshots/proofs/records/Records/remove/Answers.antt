use Rattle.std.specs.Prelude.{◌≡◌, option_map}
use Rattle.std.specs.FinMap.Entries.{find}
use Rattle.std.proofs.Common.{rules, ap, ◌∙◌}
use Rattle.model.specs.Command.{names}
use Rattle.snapshots.specs.Replaced.{replaced, live_of, without_replaced}
use Rattle.snapshots.proofs.Indexed.{IsIndexed-removed, live-removed, listing-removed}
use Rattle.snapshots.proofs.records.Records.remove.Goals as goal

pub overflow_sub-live : goal.overflow_sub-live
overflow_sub-live c =
    let es = c.self.inside.by_id.entries in
    let n = c.self.inside.update_seq in
    let id = c.args.id.now in
    let at : c.map-replaced.result ≡ option_map replaced (find names.cmp id es) = search rules in
    live-removed es n id c.self.inside.by_number.entries c.self.inside.live c.self.invariant c.live_count.result (c.live_count.ensures ∙ ap live_of at)

pub invariant_of-result : goal.invariant_of-result
invariant_of-result c =
    let es = c.self.inside.by_id.entries in
    let n = c.self.inside.update_seq in
    let id = c.args.id.now in
    let numbered = c.self.inside.by_number.entries in
    let at : c.map-replaced.result ≡ option_map replaced (find names.cmp id es) = search rules in
    IsIndexed-removed es n id numbered c.self.inside.live c.self.invariant _ _ c.live_count.result
    c.in_ok-into_without.ensures.entries
    (c.in_ok-without_old.ensures ∙ ap (λ o. without_replaced o numbered) at)
    (c.live_count.ensures ∙ ap live_of at)

pub returns : goal.returns
returns c = listing-removed c.self.inside.by_id.entries c.self.inside.update_seq c.args.id.now c.args.self _ c.self.view_is c.in_ok-into_without.ensures.entries
