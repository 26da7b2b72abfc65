use Rattle.std.specs.Prelude.{◌≤◌, Some, refl}
use Rattle.std.proofs.Common.{rules, ap, sym, subst, ◌∙◌, arith}
use Rattle.std.specs.Ordering.{nat_cmp}
use Rattle.std.specs.FinMap.Entries as listed
use Rattle.std.specs.FinMap.Entries.{find}
use Rattle.model.specs.Command.{names}
use Rattle.model.specs.Database.{Record}
use Rattle.snapshots.specs.Listing.{Listing, IsFree, listing_of}
use Rattle.snapshots.specs.Replaced.{replaced, live_of, without_replaced}
use Rattle.snapshots.proofs.Indexed.{IsIndexed-placed, live-placed, listing-placed}
use Rattle.snapshots.proofs.Replaced.{replaced-listed}
use Rattle.snapshots.proofs.records.Records.placed.Goals as goal

pub overflow_sub-live : goal.overflow_sub-live
overflow_sub-live c =
    let es = c.self.inside.by_id.entries in
    let n = c.self.inside.update_seq in
    let id = c.args.id.now in
    let more : n ≤ c.args.update_seq = omega (arith, c.requires.more, ap (λ (l : Listing). l.update_seq) c.self.view_is) in
    let free : IsFree (listing_of es n).docs id c.args.stored.seq = subst (λ (l : Listing). IsFree l.docs id c.args.stored.seq) (sym c.self.view_is) c.requires.free in
    let at = replaced-listed es n id c.args.replaced c.args.self c.self.view_is c.requires.replaced in
    (live-placed es n id c.args.stored c.args.update_seq c.self.inside.by_number.entries c.self.inside.live c.self.invariant more c.requires.number.0 c.requires.number.1 free
    c.live_count.result (live_of (Some (replaced c.args.stored))) (c.live_count.ensures ∙ ap live_of at) refl).0

pub overflow_add-live : goal.overflow_add-live
overflow_add-live c =
    let es = c.self.inside.by_id.entries in
    let n = c.self.inside.update_seq in
    let id = c.args.id.now in
    let more : n ≤ c.args.update_seq = omega (arith, c.requires.more, ap (λ (l : Listing). l.update_seq) c.self.view_is) in
    let free : IsFree (listing_of es n).docs id c.args.stored.seq = subst (λ (l : Listing). IsFree l.docs id c.args.stored.seq) (sym c.self.view_is) c.requires.free in
    let at = replaced-listed es n id c.args.replaced c.args.self c.self.view_is c.requires.replaced in
    let few = (live-placed es n id c.args.stored c.args.update_seq c.self.inside.by_number.entries c.self.inside.live c.self.invariant more c.requires.number.0 c.requires.number.1 free
    c.live_count.result c.from.result (c.live_count.ensures ∙ ap live_of at) (search rules)).2 in
    omega (arith, few, c.ranges.update_seq.fits)

pub invariant_of-result : goal.invariant_of-result
invariant_of-result c =
    let es = c.self.inside.by_id.entries in
    let n = c.self.inside.update_seq in
    let id = c.args.id.now in
    let numbered = c.self.inside.by_number.entries in
    let more : n ≤ c.args.update_seq = omega (arith, c.requires.more, ap (λ (l : Listing). l.update_seq) c.self.view_is) in
    let free : IsFree (listing_of es n).docs id c.args.stored.seq = subst (λ (l : Listing). IsFree l.docs id c.args.stored.seq) (sym c.self.view_is) c.requires.free in
    let at = replaced-listed es n id c.args.replaced c.args.self c.self.view_is c.requires.replaced in
    IsIndexed-placed es n id c.args.stored c.args.update_seq numbered c.self.inside.live c.self.invariant more c.requires.number.0 c.requires.number.1 free
    _ _ c.live_count.result c.from.result
    (c.in_ok-with_record.ensures ∙ ap (λ (r : Record). listed.put names.cmp id r es) c.in_ok-stored.ensures)
    (c.in_ok-renumbered.ensures
    ∙ ap (λ (r : Record). listed.put nat_cmp c.seq-seq.result (id, r) (without_replaced c.args.replaced numbered)) c.in_ok-stored.ensures
    ∙ (λ i. listed.put nat_cmp (c.seq-seq.ensures i) (id, c.args.stored) (without_replaced (at i) numbered)))
    (c.live_count.ensures ∙ ap live_of at)
    (search rules)

pub returns : goal.returns
returns c =
    listing-placed c.self.inside.by_id.entries c.self.inside.update_seq c.args.id.now c.args.stored c.args.update_seq c.args.self _ c.self.view_is
    (c.in_ok-with_record.ensures ∙ ap (λ (r : Record). listed.put names.cmp c.args.id.now r c.self.inside.by_id.entries) c.in_ok-stored.ensures)
