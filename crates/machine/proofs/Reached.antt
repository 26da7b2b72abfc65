-- What holds of the states that a list of events leads to.
use Rattle.std.specs.Prelude.{◌≡◌, List, [], ◌∷◌, ◌++◌, Option, refl}
use Rattle.std.proofs.Common.{sym, ap, subst, ◌∙◌}
use Rattle.model.specs.Command.{Job}
use Rattle.model.specs.Database.{Database, act}
use Rattle.model.specs.World.{Config, World, Event, View, database_of, start_world, step, run}
use Rattle.model.specs.Map.{Map}
use Rattle.model.specs.Command.{numbers}
use Rattle.model.specs.History.{base_of}
use Rattle.model.proofs.JobLaws.{AreReady, AreReady-committed}
use Rattle.model.proofs.RunLaws.{IsRunning, each_run}
use Rattle.updater.specs.Batches.{MayFollow}
use Rattle.machine.specs.States.{State, IsReached, start_state, stepped}

run-push : (base : Database) (c : Config) (w : World) (es : List Event) (e : Event) → run base c w (es ++ e ∷ []) ≡ step base c (run base c w es) e
run-push base c w [] e = refl
run-push base c w (x ∷ es) e = run-push base c (step base c w x) es e

pub reached_start : (base : Option Database) (c : Config) → IsReached (start_state base c)
reached_start base c = record { events = []; by_them = refl }

pub reached_next : (s : State) (e : Event) → IsReached s → IsReached (stepped s e)
reached_next s e r = record { events = r.events ++ e ∷ []; by_them = ap (λ w. step (base_of s.base) s.config w e) r.by_them ∙ sym (run-push (base_of s.base) s.config (start_world s.config) r.events e) }

pub reached_by : (s t : State) (e : Event) → t ≡ stepped s e → IsReached s → IsReached t
reached_by s t e is r = subst IsReached (sym is) (reached_next s e r)

running : (s : State) → IsReached s → IsRunning (base_of s.base) s.world
running s r = subst (IsRunning (base_of s.base)) (sym r.by_them) (each_run (base_of s.base) s.config r.events)

ready-follow : (d : Database) (vs : Map numbers View) (js ks : List Job) → AreReady d vs (js ++ ks) → MayFollow d js
ready-follow d vs [] ks r = tt
ready-follow d vs (j ∷ js) ks r = (r.0, ready-follow (act d j.seat j.command) vs js ks (AreReady-committed d vs j (js ++ ks) r))

-- the batch may be put
pub batch_follows : (s : State) → IsReached s → MayFollow (database_of (base_of s.base) s.world) s.world.batch
batch_follows s r = let h = running s r in ready-follow (database_of (base_of s.base) s.world) s.world.views s.world.batch s.world.waiting h.ready
