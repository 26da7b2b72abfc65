use Rattle.std.proofs.Common.{rules, ◌≡◌, ◌∙◌, ◌∷◌, [], true, Err, length, ap, sym, subst, arith}
use Rattle.model.specs.History.{replay, base_of}
use Rattle.version_log.specs.Histories.{newest}
use Rattle.updater.specs.Batches.{MayFollow, joins}
use Rattle.updater_state.specs.State.{State, published_with, database_of}
use Rattle.updater_state.specs.Swaps.{compaction_of, is_past, behind_by}
use Rattle.updater_state.proofs.Swaps.{full_is_swap, swaps_is_swap, refused_is_swap, MayFollow-swapped, length-newest_with}
use Rattle.updater_state.proofs.locked.Core.swap.Goals as goal

pub returns-then-room-eq0-clause-event : goal.returns-then-room-eq0-clause-event
returns-then-room-eq0-clause-event g c =
    λ _. full_is_swap g.J.Naming.base g.J.Opening.config c.args.copy.now c.args.seat.session c.args.self.now (omega (arith, c.if-room-eq0.true, c.room.ensures))

pub returns-in-Err-clause-event : goal.returns-in-Err-clause-event
returns-in-Err-clause-event g c =
    let copy = c.args.copy.now in
    let old = c.args.self.now in
    let view = c.self.view_is in
    let e = c.in-Err.fault in
    let h = c.in-Err.ensures in
    λ memory. refused_is_swap g.J.Naming.base g.J.Opening.config copy c.args.seat.session old e c.requires.sliced
    (omega (arith, c.if-room-eq0.false, c.room.ensures))
    (λ is. ap (is_past g.J.Naming.base copy) (sym view) ∙ h.overrun.0 (ap Err is))
    (λ is. let b = h.behind.0 (ap Err is) in (ap (is_past g.J.Naming.base copy) (sym view) ∙ b.0, omega (arith, b.1, c.self.invariant.6, ap (behind_by g.J.Naming.base copy) view)))
    (λ is. h.room_left (ap Err is))
    (λ is. memory (ap Err is))

pub invariant_of-self : goal.invariant_of-self
invariant_of-self g c =
    let old = c.self.invariant in
    let view = c.self.view_is in
    let current = c.self.inside.current in
    let published = ap (λ (s : State). s.published) view in
    let found : c.put_in_place.new.current ≡ published_with g.J.Naming.base current (compaction_of c.args.seat ∷ []) = search rules in
    let may : joins (replay (base_of g.J.Naming.base) (newest current)) c.self.inside.batch.items (compaction_of c.args.seat) ≡ true =
    ap (λ (s : State). joins (database_of g.J.Naming.base s) s.batch (compaction_of c.args.seat)) view ∙ c.requires.next
    in (
      old.0,
      old.1,
      old.2,
      omega (arith, old.3, c.if-room-eq0.false, c.room.ensures, ap (λ (s : State). length (newest s.published)) view, ap (λ p. length (newest p)) found, length-newest_with g.J.Naming.base current c.args.seat),
      subst (λ p. MayFollow (replay (base_of g.J.Naming.base) (newest p)) c.self.inside.batch.items) (sym found) (MayFollow-swapped g.J.Naming.base current c.args.seat c.self.inside.batch.items may old.4),
      old.5,
      old.6,
      old.7,
      old.8,
      old.9,
    )

pub returns-in-Ok-clause-event : goal.returns-in-Ok-clause-event
returns-in-Ok-clause-event g c =
    λ _. swaps_is_swap g.J.Naming.base g.J.Opening.config c.args.copy.now c.args.seat c.args.self.now _ c.requires.sliced c.requires.next (search rules)
