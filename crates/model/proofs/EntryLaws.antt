-- Which entries each event adds to the history.
use Rattle.std.specs.Prelude.{◌≡◌, ◌≢◌, ◌+◌, ◌-◌, ◌==◌, ◌<◌, ◌≤◌, ◌⊎◌, min, not, Bool, true, false, cond, ◌&&◌, List, [], ◌∷◌, ◌++◌, length, take, nat_lt, Option, Some, None, is_none, option_map, unwrap_or, if◌then◌else◌, refl}
use Rattle.std.proofs.Common.{sym, ap, ◌∙◌, inl, inr, append_assoc}
use Rattle.std.proofs.lemmas.Bool.{lt-ltb, le-leb, lt-leb, and_from, and_right}
use Rattle.std.proofs.lemmas.List.{append-nil}
use Rattle.model.specs.Map.{entries}
use Rattle.model.specs.Command.{Compact, Job, Seat}
use Rattle.model.specs.PurgeLog.{is_overrun}
use Rattle.model.specs.Database.{Database, compacted, counted, changed_by, act}
use Rattle.model.specs.History.{entry_of, batch_entries}
use Rattle.model.specs.Compaction.{marks_of, touched, passed}
use Rattle.model.specs.World.{Config, Event, Ask, Take, Put, GiveUp, Look, Read, Start, Slice, CatchUp, Swap, Abort, World, OpenCopy, AddsCompact, free_in, is_compact, database_of, next_seat, commit, commit_all, put_batch, give_up, abort, swap, catch_up, step}
use Rattle.model.proofs.HistoryLaws.{replay-push}
use Rattle.model.proofs.EventLaws.{asked, taken, looked, answered, started, swapped}

-- a compaction is one step
pub act-compact : (d : Database) (seat : Seat) → act d seat Compact ≡ counted (compacted d) seat.session
unfolding act changed_by
act-compact d seat = refl

module _ (base : Database) where
  history-commit_all : (w : World) (js : List Job) → (commit_all base w js).history ≡ w.history ++ batch_entries (database_of base w) js
  history-commit_all w [] = sym (append-nil w.history)
  history-commit_all w (j ∷ js) =
      let e = entry_of (database_of base w) j.seat j.command in
      history-commit_all (commit base w j) js
      ∙ ap (λ d. (w.history ++ e ∷ []) ++ batch_entries d js) (replay-push base w.history e)
      ∙ append_assoc w.history (e ∷ []) (batch_entries _ js)

  AddsCompact-swapped : (w : World) (k : OpenCopy) → w.copy ≡ Some k → AddsCompact base w (swapped base w k)
  AddsCompact-swapped w k is = record { copy = k; was_open = is; entry = refl; database = replay-push base w.history _ ∙ act-compact (database_of base w) (next_seat base w k.session) }

  module _ (c : Config) (w : World) where
    pub put_adds : 0 < length w.batch → length w.history + length w.batch ≤ c.max_places → (step base c w Put).history ≡ w.history ++ batch_entries (database_of base w) w.batch
    unfolding step
    put_adds some fits = ap (λ b. (cond b (put_batch base w) w).history) (and_from _ _ (lt-ltb 0 (length w.batch) some) (le-leb _ _ fits)) ∙ history-commit_all w w.batch

    pub put_refused : c.max_places < length w.history + length w.batch → step base c w Put ≡ w
    unfolding step
    put_refused past = ap (λ b. cond b (put_batch base w) w) (and_right _ _ (lt-leb _ _ past))

    -- nothing, or one Compact entry
    abbrev SwapsTo : World → Type 0
    SwapsTo u = (u.history ≡ w.history) ⊎ AddsCompact base w u

    either : (b : Bool) (u v : World) → SwapsTo u → SwapsTo v → SwapsTo (if b then u else v)
    either b u v f g = elim b as (λ t. SwapsTo (cond t u v)) [ true ↦ f | false ↦ g ]

    swapping : (k : OpenCopy) → w.copy ≡ Some k → SwapsTo (swap base c.slack w k)
    swapping k is = either (is_overrun (database_of base w).purges k.marks.purge) (abort base w k) _ (inl refl) (either (nat_lt c.slack (length (touched (database_of base w) k.marks))) w (swapped base w k) (inl refl) (inr (AddsCompact-swapped w k is)))

    pub swap_adds : SwapsTo (step base c w Swap)
    unfolding step
    swap_adds = elim w.copy as (λ o. w.copy ≡ o → SwapsTo (unwrap_or (option_map (λ k. if (k.left == 0) && nat_lt (length w.history) c.max_places then swap base c.slack w k else w) o) w)) [
      | None ↦ λ _. inl refl
      | Some k ↦ λ is. either ((k.left == 0) && nat_lt (length w.history) c.max_places) (swap base c.slack w k) w (swapping k is) (inl refl)
    ] refl

    -- ---- the other events

    abbrev Keeps : World → Type 0
    Keeps u = u.history ≡ w.history

    kept : (b : Bool) (u v : World) → Keeps u → Keeps v → Keeps (if b then u else v)
    kept b u v f g = elim b as (λ t. Keeps (cond t u v)) [ true ↦ f | false ↦ g ]

    kept_by_copy : (o : Option OpenCopy) (f : OpenCopy → World) → ((k : OpenCopy) → Keeps (f k)) → Keeps (unwrap_or (option_map f o) w)
    kept_by_copy None f each = refl
    kept_by_copy (Some k) f each = each k

    pub others_add_nothing : (e : Event) → e ≢ Put → e ≢ Swap → Keeps (step base c w e)
    unfolding step
    others_add_nothing (Ask s command) p q = kept (free_in w.views s && not (is_compact command) && nat_lt (length w.waiting) c.queue) (asked base w s command) w refl refl
    others_add_nothing (Take n) p q = kept (length w.batch == 0) (taken base w (min n c.gather)) w refl refl
    others_add_nothing Put p q = absurd (p refl)
    others_add_nothing GiveUp p q = kept (nat_lt 0 (length w.batch)) (give_up base w) w refl refl
    others_add_nothing (Look s) p q = kept (free_in w.views s) (looked base w s) w refl refl
    others_add_nothing (Read s query) p q = kept (free_in w.views s) (answered base w s query) w refl refl
    others_add_nothing (Start s) p q = kept (is_none w.copy && free_in w.views s) (started base w (record { session = s; left = length (entries (database_of base w).docs); marks = marks_of (database_of base w) })) w refl refl
    others_add_nothing (Slice n) p q = kept_by_copy w.copy (λ k. record w { copy = Some (record k { left = k.left - n }) }) (λ k. refl)
    others_add_nothing (CatchUp n) p q = kept_by_copy w.copy (λ k. if k.left == 0 then catch_up base w k n else w) (λ k. kept (k.left == 0) (catch_up base w k n) w
        (kept (is_overrun (database_of base w).purges k.marks.purge) (abort base w k) (record w { copy = Some (record k { marks = passed k.marks (take n (touched (database_of base w) k.marks)) }) }) refl refl) refl)
    others_add_nothing Swap p q = absurd (q refl)
    others_add_nothing Abort p q = kept_by_copy w.copy (abort base w) (λ k. refl)
