-- What a list of events gives, by the world that it leads to.
use Rattle.std.specs.Prelude.{◌≡◌, List, Option, map, filter_map}
use Rattle.std.proofs.Common.{sym, ap, subst, ◌∙◌}
use Rattle.model.specs.Command.{Entry}
use Rattle.model.specs.Database.{Database}
use Rattle.model.specs.History.{Chronicle, IsLegal, base_of}
use Rattle.model.specs.Told.{AllTold, wrote, places_of, NoneFalls}
use Rattle.model.specs.World as model
use Rattle.model.specs.World.{Config, World}
use Rattle.model.proofs.PlaceLaws.{places_never_fall}
use Rattle.model.proofs.RunLaws.{each_run}
use Rattle.machine.specs.declared.record.Record.{Record}
use Rattle.machine.specs.Events.{completed_of}
use Rattle.machine.specs.States.{State, start_state}
use Rattle.machine.specs.Runs.{IsRun, world_of}

-- the events led from the start over the base to the machine of which the record is made
pub is_run : (over : Option Database) (c : Config) (es : List model.Event) (start end : State) (r : Record) → start ≡ start_state over c → end.base ≡ start.base → end.world ≡ model.run (base_of start.base) start.config start.world es
    → r.version ≡ record { base = end.base; entries = end.world.history } → map completed_of r.completed.items ≡ end.world.completed → IsRun over c es r
is_run over c es start end r begun kept led version completed =
    let w : World = world_of over c es in
    let final : end.world ≡ w = led ∙ ap (λ (s : State). model.run (base_of s.base) s.config s.world es) begun in
    let calls : map completed_of r.completed.items ≡ w.completed = completed ∙ ap (λ (u : World). u.completed) final in
    let history : r.version.entries ≡ w.history = ap (λ (v : Chronicle). v.entries) version ∙ ap (λ (u : World). u.history) final in
    let run = each_run (base_of over) c es in
    record {
      base = ap (λ (v : Chronicle). v.base) version ∙ kept ∙ ap (λ (s : State). s.base) begun;
      history = history;
      completed = calls;
      legal = subst (IsLegal (base_of over)) (sym history) run.calls.legal;
      told = subst (λ (cs : List model.Completed). AllTold (base_of over) r.version.entries cs) (sym calls) (subst (λ (xs : List Entry). AllTold (base_of over) xs w.completed) (sym history) run.calls.told);
      only = ap (filter_map wrote) calls ∙ run.calls.only ∙ sym history;
      places = λ s. subst (λ (cs : List model.Completed). NoneFalls 0 (places_of s cs)) (sym calls) (places_never_fall (base_of over) s c es);
    }
