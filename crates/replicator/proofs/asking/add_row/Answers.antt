use Rattle.std.proofs.Common.{◌≡◌, ◌++◌, ◌∙◌, List, ap, cond, subst, Some}
use Rattle.std.specs.BTreeMap.{get, is_at}
use Rattle.model.specs.Command.{Id, names}
use Rattle.model.specs.Query.{Row}
use Rattle.model.specs.Revision.{Rev}
use Rattle.replicator.specs.Asked.{Asked, revs_asked, with_row}
use Rattle.replicator.specs.Gathered.{Holds}
use Rattle.replicator.proofs.Gathered.{added-row}
use Rattle.replicator.proofs.asking.add_row.Goals as goal

pub returns : goal.returns
returns c =
    let r = c.row.inside in
    let row : Row = record { seq = r.seq; id = r.id; changes = r.changes.items; deleted = r.deleted } in
    let old = c.args.asked.now in
    let mid = c.take_revisions-revisions.new.asked in
    let new = c.insert.new.self in
    let taken = c.take_revisions-revisions.result in
    let revs = c.extend_from_slice.new.self in
    subst (λ (w : Row). (m : Asked) → Holds old m → Holds new (with_row m w)) c.row.view_is
    (added-row old mid new row revs
    (λ m holds. c.in_ok-extend_from_slice.ensures.items ∙ ap (λ (rs : List Rev). rs ++ c.deref.result.now) (c.take_revisions-revisions.ensures.revisions m holds)
    ∙ ap (λ (rs : List Rev). revs_asked m r.id ++ rs) c.deref.ensures.value)
    c.take_revisions-revisions.ensures.others
    (λ q. subst (λ (i : Id). get names.cmp new q ≡ cond (is_at (names.cmp i) q) (Some revs) (get names.cmp mid q)) c.in_ok-id.ensures.same (c.in-Ok.ensures.updates.0 q)))
