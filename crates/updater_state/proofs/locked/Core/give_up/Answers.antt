use Rattle.std.proofs.Common.{rules, subst, sym, arith}
use Rattle.model.specs.History.{replay, base_of}
use Rattle.version_log.specs.Histories.{newest}
use Rattle.updater.specs.Batches.{MayFollow}
use Rattle.updater_state.proofs.Slots.{length-given_up}
use Rattle.updater_state.proofs.Worlds.{give_up_is_event}
use Rattle.updater_state.proofs.locked.Core.give_up.Goals as goal

pub invariant_of-self : goal.invariant_of-self
invariant_of-self g c =
    let old = c.self.invariant in (
      old.0,
      omega (arith, old.1, c.clear.ensures.capacity),
      omega (arith, old.2, length-given_up _ _ _ c.self.inside.outcomes.items c.give_up_all.new.outcomes.items c.give_up_all.ensures),
      old.3,
      subst (MayFollow (replay (base_of g.J.Naming.base) (newest c.self.inside.current))) (sym c.clear.ensures.items) tt,
      old.5,
      old.6,
      old.7,
      old.8,
      old.9,
    )

pub returns-clause-event : goal.returns-clause-event
returns-clause-event g c = give_up_is_event g.J.Naming.base g.J.Opening.config c.args.self.now _ (search rules)
