use Rattle.std.proofs.Common.{◌≡◌, ◌+◌, ◌∷◌, ◌∙◌, List, drop, map, sym, ap}
use Rattle.std.proofs.lemmas.List.{drop_more, drop_all}
use Rattle.model.specs.History.{base_of}
use Rattle.model.specs.World as model
use Rattle.machine.specs.declared.event.Event.{Event}
use Rattle.machine.specs.Events.{event_of}
use Rattle.machine.specs.States.{State}
use Rattle.machine.proofs.record.step_all.Goals as goal

pub loop-event-preserved : goal.loop-event-preserved
loop-event-preserved c =
    let first = c.args.machine.now in
    let events = c.args.events.now in
    let i = c.loop-event.event-index in
    let event = c.event-item.result in
    let old = c.loop-event.machine in
    let h = c.loop-event.invariant in
    let e = c.in_ok-step.ensures.stepped in
    let rest = map event_of (drop (i + 1) events) in
    let split : drop i events ≡ event ∷ drop (i + 1) events = drop_more events i event c.loop-event-test.true ∙ ap (λ (x : Event). x ∷ drop (i + 1) events) (sym c.event-item.is) in
    record {
      base = ap (λ (s : State). s.base) e ∙ h.base;
      config = ap (λ (s : State). s.config) e ∙ h.config;
      world =
          ap (λ (s : State). model.run (base_of first.base) first.config s.world rest) e
          ∙ (λ j. model.run (base_of first.base) first.config (model.step (base_of (h.base j)) (h.config j) old.world (event_of event)) rest)
          ∙ ap (λ (xs : List Event). model.run (base_of first.base) first.config old.world (map event_of xs)) (sym split)
          ∙ h.world;
    }

pub returns : goal.returns
returns c =
    let first = c.args.machine.now in
    let events = c.args.events.now in
    let m = c.loop-event.machine in
    let h = c.loop-event.invariant in
    record {
      base = h.base;
      world = ap (λ (xs : List Event). model.run (base_of first.base) first.config m.world (map event_of xs)) (sym (drop_all c.loop-event.event-index events c.loop-event-test.false)) ∙ h.world;
    }
