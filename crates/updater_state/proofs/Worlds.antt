-- What the updater does is what the model's events do.
use Rattle.std.proofs.Common.{◌≡◌, ℕ, ◌+◌, ◌<◌, ◌≤◌, Bool, List, [], ◌∷◌, ◌++◌, length, refl, ap, sym, ◌∙◌, arith}
use Rattle.std.specs.Prelude.{◌&&◌, nat_lt, nat_le, Option}
use Rattle.std.proofs.lemmas.Bool.{cond-true, cond-false, lt-ltb, le-leb}
use Rattle.model.specs.Command.{Entry, Job}
use Rattle.model.specs.Database.{Database}
use Rattle.model.specs.History.{replay, batch_entries, base_of}
use Rattle.model.specs.World.{Config, World, Put, GiveUp, put_batch, step}
use Rattle.model.proofs.EntryLaws.{put_adds}
use Rattle.version_log.specs.Histories.{newest}
use Rattle.version_log.proofs.Growing.{newest_after-append}
use Rattle.updater_state.specs.State.{State, Puts, GivesUpBatch, entries_after}
use Rattle.updater_state.specs.Worlds.{IsEvent}

-- a batch that is not empty and leaves no place missing
step-put : (base : Database) (c : Config) (w : World) → 0 < length w.batch → length w.history + length w.batch ≤ c.max_places → step base c w Put ≡ put_batch base w
unfolding step
step-put base c w some room =
    cond-true _ _ _ (ap (λ (b : Bool). b && nat_le (length w.history + length w.batch) c.max_places) (lt-ltb 0 (length w.batch) some) ∙ le-leb (length w.history + length w.batch) c.max_places room)

step-put-none : (base : Database) (c : Config) (w : World) → length w.batch ≡ 0 → step base c w Put ≡ w
unfolding step
step-put-none base c w none = cond-false _ _ _ (ap (λ (n : ℕ). nat_lt 0 n && nat_le (length w.history + length w.batch) c.max_places) none)

step-give_up : (base : Database) (c : Config) (w : World) → ((step base c w GiveUp).history ≡ w.history) × ((step base c w GiveUp).batch ≡ [])
unfolding step
step-give_up base c w = of w.batch refl
  where
    of : (js : List Job) → w.batch ≡ js → ((step base c w GiveUp).history ≡ w.history) × ((step base c w GiveUp).batch ≡ [])
    of [] is = let same = cond-false _ _ _ (ap (λ (js : List Job). nat_lt 0 (length js)) is) in (ap (λ (u : World). u.history) same, ap (λ (u : World). u.batch) same ∙ is)
    of (j ∷ js) is = let same = cond-true _ _ _ (lt-ltb 0 (length w.batch) (omega (arith, ap length is))) in (ap (λ (u : World). u.history) same, ap (λ (u : World). u.batch) same)

-- what was put is what the model's event puts
pub put_is_event : (base : Option Database) (c : Config) (old new : State) → Puts base c.max_places old new → IsEvent base c Put old new
put_is_event base c old new p w is =
    let some : 0 < length w.batch = omega (arith, p.some, ap length is.batch) in
    let room : length w.history + length w.batch ≤ c.max_places = omega (arith, p.room, ap length is.history, ap length is.batch) in
    record {
      history =
          put_adds (base_of base) c w some room
          ∙ ap (λ (h : List Entry). h ++ batch_entries (replay (base_of base) h) w.batch) is.history
          ∙ ap (λ (js : List Job). newest old.published ++ entries_after base old.published js) is.batch
          ∙ sym (newest_after-append [] old.published ((newest old.published ++ entries_after base old.published old.batch) ∷ []))
          ∙ ap (λ (s : State). newest s.published) (sym p.put);
      batch = ap (λ (u : World). u.batch) (step-put (base_of base) c w some room) ∙ ap (λ (s : State). s.batch) (sym p.put);
    }

-- nothing is put of an empty batch
pub put_nothing_is_event : (base : Option Database) (c : Config) (old new : State) → length old.batch ≡ 0 → new ≡ old → IsEvent base c Put old new
put_nothing_is_event base c old new none same w is =
    let stepped = step-put-none (base_of base) c w (ap length is.batch ∙ none) in
    record {
      history = ap (λ (u : World). u.history) stepped ∙ is.history ∙ ap (λ (s : State). newest s.published) (sym same);
      batch = ap (λ (u : World). u.batch) stepped ∙ is.batch ∙ ap (λ (s : State). s.batch) (sym same);
    }

-- a batch is given up as by the model's event
pub give_up_is_event : (base : Option Database) (c : Config) (old new : State) → GivesUpBatch c.max_places old new → IsEvent base c GiveUp old new
give_up_is_event base c old new g w is =
    let stepped = step-give_up (base_of base) c w in
    record {
      history = stepped.0 ∙ is.history ∙ ap (λ (s : State). newest s.published) (sym g.others);
      batch = stepped.1 ∙ ap (λ (s : State). s.batch) (sym g.others);
    }
