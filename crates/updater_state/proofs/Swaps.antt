-- A compaction that is swapped in, over the batch and as the model's event.
use Rattle.std.proofs.Common.{◌≡◌, ℕ, suc, ◌+◌, ◌==◌, ◌<◌, ◌≤◌, ◌||◌, Bool, true, false, cond, List, [], ◌∷◌, ◌++◌, length, Some, slice_get, refl, ap, sym, ◌∙◌, subst, arith, length-append}
use Rattle.std.specs.Prelude.{◌&&◌, not, nat_lt, option_map, unwrap_or, if◌then◌else◌, Option}
use Rattle.std.proofs.lemmas.Bool.{false_from_ne_true, and_parts, and_from, lt-ltb, le-ltb}
use Rattle.std.proofs.lemmas.Bool.Decides.{nat_tests}
use Rattle.model.specs.Map.{same_key, same_key-equal}
use Rattle.model.specs.Command.{numbers, Command, Compact, Entry, Job, Seat, Done}
use Rattle.model.specs.PurgeLog.{is_overrun}
use Rattle.model.specs.Database.{Database, act, calls_of, reply_to}
use Rattle.model.specs.History.{replay, entry_of, base_of}
use Rattle.model.specs.Compaction.{touched}
use Rattle.model.specs.World.{Config, World, OpenCopy, Swap, abort, swap, step}
use Rattle.model.proofs.EventLaws.{swapped}
use Rattle.model.proofs.HistoryLaws.{replay-push}
use Rattle.model.proofs.RestLaws.{calls_of-act}
use Rattle.model.proofs.TellLaws.{slice_get-push}
use Rattle.snapshots.specs.Version.{entry_at}
use Rattle.version_log.specs.Histories.{newest}
use Rattle.version_log.proofs.Growing.{newest_after-append}
use Rattle.compactor.specs.Copy.{CopyView}
use Rattle.updater.specs.Batches.{MayFollow, has_job_of, joins}
use Rattle.updater_state.specs.State.{State, database_of, entries_after, published_with}
use Rattle.updater_state.specs.Worlds.{IsOf}
use Rattle.updater_state.specs.Swaps.{HasPlace, Swaps, IsSwap, is_past, behind_by, compaction_of}
use Rattle.updater_state.proofs.Published.{length-entries}
use Rattle.updater_state.specs.declared.fault.SwapFault.{SwapFault}
use Rattle.updater_state.specs.declared.fault.SwapFault.TheVariants.{Full, Behind, Overrun, Memory}

-- ---- the batch may follow a call of a session that has no job in it

or_false : (a b : Bool) → (a || b) ≡ false → (a ≡ false) × (b ≡ false)
or_false false b h = (λ _. false, h)
or_false true b h = cc

apart : (a b : ℕ) → (a == b) ≡ false → a ≡ b → ⊥
apart a b f is = grind (arith, nat_tests)

-- the same calls but for one session's
abbrev SameButFor : ℕ → Database → Database → Type 0
SameButFor t d e = (s : ℕ) → (s == t) ≡ false → calls_of e s ≡ calls_of d s

MayFollow-apart : (t : ℕ) (d e : Database) (jobs : List Job) → has_job_of t jobs ≡ false → SameButFor t d e → MayFollow d jobs → MayFollow e jobs
MayFollow-apart t d e [] none same may = tt
MayFollow-apart t d e (j ∷ js) none same may =
    let parts = or_false (j.seat.session == t) (has_job_of t js) none in (
      may.0 ∙ ap (λ n. n + 1) (sym (same j.seat.session parts.0)),
      MayFollow-apart t (act d j.seat j.command) (act e j.seat j.command) js parts.1
          (λ s f. calls_of-act e j.seat j.command s ∙ ap (λ n. cond (same_key numbers s j.seat.session) (n + 1) n) (same s f) ∙ sym (calls_of-act d j.seat j.command s))
          may.1,
    )

other_calls : (d : Database) (seat : Seat) (c : Command) → SameButFor seat.session d (act d seat c)
other_calls d seat c s f =
    let other : same_key numbers s seat.session ≡ false = false_from_ne_true _ (λ t. apart s seat.session f (same_key-equal numbers s seat.session t)) in
    calls_of-act d seat c s ∙ ap (λ b. cond b (calls_of d s + 1) (calls_of d s)) other

not_true : (b : Bool) → not b ≡ true → b ≡ false
not_true false h = λ _. false
not_true true h = cc

-- what a compaction that joins the batch has
pub joins-parts : (d : Database) (batch : List Job) (j : Job) → joins d batch j ≡ true → (j.seat.call ≡ calls_of d j.seat.session + 1) × (has_job_of j.seat.session batch ≡ false)
joins-parts d batch j is =
    let parts = and_parts (j.seat.call == calls_of d j.seat.session + 1) (not (has_job_of j.seat.session batch)) is in
    (same_number j.seat.call (calls_of d j.seat.session + 1) parts.0, not_true (has_job_of j.seat.session batch) parts.1)
  where
    same_number : (a b : ℕ) → (a == b) ≡ true → a ≡ b
    same_number a b t = grind (arith, nat_tests)

-- ---- what was published with it

pub newest_with : (base : Option Database) (published : List (List Entry)) (jobs : List Job) → newest (published_with base published jobs) ≡ newest published ++ entries_after base published jobs
newest_with base published jobs = newest_after-append [] published ((newest published ++ entries_after base published jobs) ∷ [])

-- what was published with a batch fits where there is room for it
pub few_with : (base : Option Database) (max : ℕ) (published new : List (List Entry)) (jobs : List Job) → new ≡ published_with base published jobs → length (newest published) + length jobs ≤ max → length (newest new) ≤ max
few_with base max published new jobs is room =
    omega (arith, room, ap (λ (l : List (List Entry)). length (newest l)) is, ap length (newest_with base published jobs), length-append (newest published) (entries_after base published jobs), length-entries (replay (base_of base) (newest published)) jobs)

pub length-newest_with : (base : Option Database) (published : List (List Entry)) (seat : Seat) → length (newest (published_with base published (compaction_of seat ∷ []))) ≡ length (newest published) + 1
length-newest_with base published seat = ap length (newest_with base published (compaction_of seat ∷ [])) ∙ length-append (newest published) (entries_after base published (compaction_of seat ∷ []))

-- the entry of the compaction is last
pub entry_stands : (base : Option Database) (found current : List (List Entry)) (seat : Seat) (place : ℕ) → found ≡ published_with base current (compaction_of seat ∷ []) → place ≡ length (newest current) + 1
    → option_map (λ (e : Entry). e.reply) (entry_at (newest found) place) ≡ Some Done
unfolding reply_to
entry_stands base found current seat place is at =
    let d = replay (base_of base) (newest current) in
    let last : place ≡ suc (length (newest current)) = omega (arith, at) in
    ap (λ n. option_map (λ (e : Entry). e.reply) (entry_at (newest found) n)) last
    ∙ ap (λ (l : List (List Entry)). option_map (λ (e : Entry). e.reply) (slice_get (newest l) (length (newest current)))) is
    ∙ ap (λ (h : List Entry). option_map (λ (e : Entry). e.reply) (slice_get h (length (newest current)))) (newest_with base current (compaction_of seat ∷ []))
    ∙ ap (option_map (λ (e : Entry). e.reply)) (slice_get-push (newest current) (entry_of d seat Compact))

pub MayFollow-swapped : (base : Option Database) (published : List (List Entry)) (seat : Seat) (batch : List Job) → joins (replay (base_of base) (newest published)) batch (compaction_of seat) ≡ true
    → MayFollow (replay (base_of base) (newest published)) batch → MayFollow (replay (base_of base) (newest (published_with base published (compaction_of seat ∷ [])))) batch
MayFollow-swapped base published seat batch is may =
    let d = replay (base_of base) (newest published) in
    let after : replay (base_of base) (newest (published_with base published (compaction_of seat ∷ []))) ≡ act d seat Compact =
    ap (replay (base_of base)) (newest_with base published (compaction_of seat ∷ [])) ∙ replay-push (base_of base) (newest published) (entry_of d seat Compact)
    in
    subst (λ e. MayFollow e batch) (sym after) (MayFollow-apart seat.session d (act d seat Compact) batch (joins-parts d batch (compaction_of seat) is).1 (other_calls d seat Compact) may)

-- ---- the model's event

module _ (base : Option Database) (c : Config) (copy : CopyView) (session : ℕ) (old : State) where
  module _ (w : World) (opened : w.copy ≡ Some (record { session = session; left = copy.left; marks = copy.marks })) (is : IsOf w old) where
    abbrev here : OpenCopy
    here = record { session = session; left = copy.left; marks = copy.marks }

    stepped : step (base_of base) c w Swap ≡ (if (copy.left == 0) && nat_lt (length w.history) c.max_places then swap (base_of base) c.slack w here else w)
    unfolding step
    stepped = ap (λ o. unwrap_or (option_map (λ (k : OpenCopy). if (k.left == 0) && nat_lt (length w.history) c.max_places then swap (base_of base) c.slack w k else w) o) w) opened

    database_is : replay (base_of base) w.history ≡ database_of base old
    database_is = ap (replay (base_of base)) is.history

    -- where no place is left
    stays : c.max_places ≤ length (newest old.published) → step (base_of base) c w Swap ≡ w
    stays past =
        let full : nat_lt (length w.history) c.max_places ≡ false = le-ltb (length w.history) c.max_places (omega (arith, past, ap length is.history)) in
        stepped ∙ ap (λ b. if b then swap (base_of base) c.slack w here else w) (and_no (copy.left == 0) _ full)
      where
        and_no : (a b : Bool) → b ≡ false → (a && b) ≡ false
        and_no false b h = λ _. false
        and_no true b h = h

    -- the copy is overrun, behind, or neither
    abbrev ended : Bool → Bool → World
    ended over behind = if over then abort (base_of base) w here else if behind then w else swapped (base_of base) w here

    module _ (sliced : copy.left ≡ 0) (place : HasPlace c.max_places old) where
      goes : step (base_of base) c w Swap ≡ ended (is_past base copy old) (nat_lt c.slack (behind_by base copy old))
      goes =
          let none : (copy.left == 0) ≡ true = ap (λ n. n == 0) sliced in
          let some : nat_lt (length w.history) c.max_places ≡ true = lt-ltb (length w.history) c.max_places (omega (arith, place, ap length is.history)) in
          stepped
          ∙ ap (λ b. if b then swap (base_of base) c.slack w here else w) (and_from _ _ none some)
          ∙ ap (λ (d : Database). ended (is_overrun d.purges copy.marks.purge) (nat_lt c.slack (length (touched d copy.marks)))) database_is

      aborts : is_past base copy old ≡ true → step (base_of base) c w Swap ≡ abort (base_of base) w here
      aborts over = goes ∙ ap (λ b. ended b (nat_lt c.slack (behind_by base copy old))) over

      waits : is_past base copy old ≡ false → c.slack < behind_by base copy old → step (base_of base) c w Swap ≡ w
      waits within more = goes ∙ ap (λ b. ended b (nat_lt c.slack (behind_by base copy old))) within ∙ ap (ended false) (lt-ltb c.slack (behind_by base copy old) more)

      ends : is_past base copy old ≡ false → behind_by base copy old ≤ c.slack → step (base_of base) c w Swap ≡ swapped (base_of base) w here
      ends within few = goes ∙ ap (λ b. ended b (nat_lt c.slack (behind_by base copy old))) within ∙ ap (ended false) (le-ltb c.slack (behind_by base copy old) few)

  kept : (u w : World) → u ≡ w → IsOf w old → IsOf u old
  kept u w same is = record { history = ap (λ (v : World). v.history) same ∙ is.history; batch = ap (λ (v : World). v.batch) same ∙ is.batch }

  pub full_is_swap : c.max_places ≤ length (newest old.published) → IsSwap base c copy session old old
  full_is_swap past w opened is = kept _ w (stays w opened is past) is

  pub overrun_is_swap : copy.left ≡ 0 → HasPlace c.max_places old → is_past base copy old ≡ true → IsSwap base c copy session old old
  overrun_is_swap sliced place over w opened is =
      let stepped = aborts w opened is sliced place over in
      record { history = ap (λ (v : World). v.history) stepped ∙ is.history; batch = ap (λ (v : World). v.batch) stepped ∙ is.batch }

  pub behind_is_swap : copy.left ≡ 0 → HasPlace c.max_places old → is_past base copy old ≡ false → c.slack < behind_by base copy old → IsSwap base c copy session old old
  behind_is_swap sliced place within more w opened is = kept _ w (waits w opened is sliced place within more) is

-- a copy that is swapped in
pub swaps_is_swap : (base : Option Database) (c : Config) (copy : CopyView) (seat : Seat) (old new : State) → copy.left ≡ 0 → joins (database_of base old) old.batch (compaction_of seat) ≡ true
    → Swaps base c copy seat old new → IsSwap base c copy seat.session old new
swaps_is_swap base c copy seat old new sliced may s w opened is =
    let stepped = ends base c copy seat.session old w opened is sliced s.place s.within s.few in
    let next = (joins-parts (database_of base old) old.batch (compaction_of seat) may).0 in
    let d_is = database_is base c copy seat.session old w opened is in
    let seat_is : record { session = seat.session; call = calls_of (replay (base_of base) w.history) seat.session + 1 } ≡ seat =
    λ i. record { session = seat.session; call = (ap (λ (d : Database). calls_of d seat.session + 1) d_is ∙ sym next) i }
    in
    record {
      history =
          ap (λ (v : World). v.history) stepped
          ∙ ap (λ (q : Seat). w.history ++ entry_of (replay (base_of base) w.history) q Compact ∷ []) seat_is
          ∙ ap (λ (h : List Entry). h ++ entry_of (replay (base_of base) h) seat Compact ∷ []) is.history
          ∙ sym (newest_with base old.published (compaction_of seat ∷ []))
          ∙ ap (λ (v : State). newest v.published) (sym s.swapped);
      batch = ap (λ (v : World). v.batch) stepped ∙ is.batch ∙ ap (λ (v : State). v.batch) (sym s.swapped);
    }

-- a copy that is not swapped in, though memory was there
pub refused_is_swap : (base : Option Database) (c : Config) (copy : CopyView) (session : ℕ) (old : State) (e : SwapFault) → copy.left ≡ 0 → HasPlace c.max_places old
    → (e ≡ Overrun → is_past base copy old ≡ true) → (e ≡ Behind → (is_past base copy old ≡ false) × (c.slack < behind_by base copy old)) → (e ≡ Full → ⊥) → (e ≡ Memory → ⊥)
    → IsSwap base c copy session old old
refused_is_swap base c copy session old Full sliced place over behind full memory = absurd (full refl)
refused_is_swap base c copy session old Behind sliced place over behind full memory = let b = behind refl in behind_is_swap base c copy session old sliced place b.0 b.1
refused_is_swap base c copy session old Overrun sliced place over behind full memory = overrun_is_swap base c copy session old sliced place (over refl)
refused_is_swap base c copy session old Memory sliced place over behind full memory = absurd (memory refl)
