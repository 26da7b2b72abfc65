use Rattle.std.proofs.Common.{rules, refl, subst, sym, ap, length, arith}
use Rattle.model.specs.History.{replay, base_of}
use Rattle.version_log.specs.Histories.{newest}
use Rattle.updater.specs.Batches.{MayFollow}
use Rattle.updater_state.specs.State.{State}
use Rattle.updater_state.proofs.Swaps.{few_with}
use Rattle.updater_state.proofs.Worlds.{put_is_event, put_nothing_is_event}
use Rattle.updater_state.proofs.locked.Core.put.Goals as goal

pub invariant_of-self-2 : goal.invariant_of-self-2
invariant_of-self-2 g c =
    let old = c.self.invariant in (
      old.0,
      omega (arith, old.1, c.clear-2.ensures.capacity),
      omega (arith, old.2, c.answer_all.ensures.count),
      few_with g.J.Naming.base g.J.Opening.config.max_places c.self.inside.current c.put_in_place.new.current c.self.inside.batch.items (search rules)
          (omega (arith, c.if-len-room.false, c.len.ensures, c.room.ensures, old.3, ap (λ (s : State). length (newest s.published)) c.self.view_is)),
      subst (MayFollow (replay (base_of g.J.Naming.base) (newest c.put_in_place.new.current))) (sym c.clear-2.ensures.items) tt,
      old.5,
      old.6,
      c.answer_all.ensures.emptied,
      old.8,
      old.9,
    )

pub returns-clause-event : goal.returns-clause-event
returns-clause-event g c = put_is_event g.J.Naming.base g.J.Opening.config c.args.self.now _ (search rules)

pub returns-then-is_empty-clause-event : goal.returns-then-is_empty-clause-event
returns-then-is_empty-clause-event g c = put_nothing_is_event g.J.Naming.base g.J.Opening.config c.args.self.now c.args.self.now (search rules) refl
