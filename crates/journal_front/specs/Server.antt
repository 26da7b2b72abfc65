-- A run of a server whose history a journal keeps.
use Rattle.std.specs.Prelude.{◌≡◌, ◌||◌, ℕ, ◌+◌, ◌<◌, Bool, true, false, List, [], ◌∷◌, ◌++◌, length, map, slice_index_or, MatchBool, Option, Some, IfSome}
use Rattle.std.specs.List.{FoldsTo}
use mathlib.Core.List.{IsPrefix}
use Rattle.model.specs.Command.{Entry}
use Rattle.model.specs.Database.{Database}
use Rattle.model.specs.History.{Chronicle, successor}
use Rattle.model.specs.World.{Config}
use Rattle.history_lock.specs.Ending.{Ending, Ends}
use Rattle.history_lock.specs.Successors.{last_database}
use Rattle.sessions.specs.Known.{Known as KnownOfThreads, fresh}
use Rattle.session_api.specs.SessionCall.{SessionCall}
use Rattle.session_api.specs.Known.{Known}
use Rattle.http_workers.specs.Worker.{ServesFew}
use Rattle.session_calls.specs.Sessions.{Goes, known_of as known_of_session}
use Rattle.durable_calls.specs.Kept.{Answering, GoesKept}
use Rattle.journal.specs.Held.{BeginsDump, HoldsDump}
use Rattle.journal.specs.Kept.{Kept}
use Rattle.journal_front.specs.Keeping.{IsKeptIn, IsLimitIn}
use Rattle.journal_front.specs.declared.policy.SyncPolicy.{SyncPolicy}
use Rattle.journal_front.specs.declared.policy.SyncPolicy.TheVariants as policy

-- a write is answered only when its entry is kept
abbrev pub awaits : SyncPolicy → Bool
awaits policy.Always = true
awaits policy.EverySecond = false
awaits policy.Never = false

-- the policy asks for syncs
abbrev pub syncs : SyncPolicy → Bool
syncs policy.Always = true
syncs policy.EverySecond = true
syncs policy.Never = false

-- so many nanoseconds after a sync the time of the next one has come, where there is one each second: a pause of the keeper may follow
abbrev pub sync_nanoseconds : ℕ
sync_nanoseconds = 900000000

-- A sync is due where no more entries come, or the time has come since the last one.
abbrev pub is_due : SyncPolicy → Bool → Bool → Bool
is_due policy.Always last came = true
is_due policy.EverySecond last came = last || came
is_due policy.Never last came = false

-- each knows of entries of the journal with which these begin
pub record AllJournaled {S : Type 0} (entries : List Entry) (finals : List (Answering S)) : Type 0 where
  pub each : (i : ℕ) (d : Answering S) → i < length finals → IsPrefix ((slice_index_or finals i d).1.1) entries

-- By what a session does and knows, where this is known of the entries that a journal has, of the limits of its numbers, and once the
-- journal has failed.
module _ {S : Type 0} (goes : S → SessionCall → S → Type 0) (known : S → Known) (is_appended is_kept : List Entry → Type 0) (is_limit : ℕ → List Entry → Type 0) (has_failed : Type 0) where
  -- Sessions served connections, each of which answered what the journal has, and awaited or not that it is kept. At first they knew
  -- of none of its entries, and at the end of some with which those begin that are in the journal.
  pub record ServesDurably (waits : Bool) (turns connections : ℕ) (entries : List Entry) (before after : List S) : Type 0 where
    pub finals : List (Answering S)
    pub after_is : after ≡ map (λ (k : Answering S). k.0) finals
    pub count : length finals ≡ length before
    pub each : (i : ℕ) (d : Answering S) → i < length before
        → ServesFew (λ old call new. GoesKept goes known is_appended is_kept is_limit has_failed old call new) (λ (k : Answering S). known k.0) turns connections
        (slice_index_or before i d.0, (waits, [])) (slice_index_or finals i d)
    pub journaled : AllJournaled entries finals

-- Of a database over this base that was opened with these numbers, where this is known of the entries that its journal has, of the
-- limits of its numbers, and once the journal has failed.
module _ (base : Option Database) (config : Config) (is_appended is_kept : List Entry → Type 0) (is_limit : ℕ → List Entry → Type 0) (has_failed : Type 0) where
  -- by this call with this answer a session goes from one state to another
  abbrev pub GoesBy : Answering KnownOfThreads → SessionCall → Answering KnownOfThreads → Type 0
  GoesBy old call new =
      GoesKept (λ o d n. Goes base config config.sessions config.queue o d n) (λ k. known_of_session base config config.sessions config.queue k)
      is_appended is_kept is_limit has_failed old call new

  -- what a connection sees of what a session knows
  abbrev pub known_of : Answering KnownOfThreads → Known
  known_of k = known_of_session base config config.sessions config.queue k.0

  -- All sessions but the keeper's, each of which answers what the journal has, served connections, and the database was
  -- closed: its last history is legal, goes on from what each session and the keeper's has seen, and has exactly the entries
  -- with a receipt of each that is not lost. It begins with the entries by which each session knew what it could answer.
  pub record ServesKept (waits : Bool) (turns connections : ℕ) (keeper : KnownOfThreads) (end : Ending) : Type 0 where
    pub finals : List (Answering KnownOfThreads)
    pub count : length finals + 1 ≡ config.sessions
    pub each : (i : ℕ) (d : Answering KnownOfThreads) → i < length finals
        → ServesFew GoesBy known_of turns connections (fresh i, (waits, [])) (slice_index_or finals i d)
    pub ends : Ends base (map (λ (k : Answering KnownOfThreads). k.0) finals ++ keeper ∷ []) end
    pub journaled : AllJournaled end.history finals

-- The journal at the end of an epoch: it is the dump of the whole last history, and where syncs are asked for all of it is
-- covered. Or it is broken, which was reported, and a beginning of that dump.
abbrev pub EndsWhole : Bool → Type 0 → Chronicle → Kept → Type 0
EndsWhole synced has_failed history journal =
    MatchBool journal.broken (has_failed × BeginsDump journal history)
    (HoldsDump journal history × (synced ≡ true → journal.synced ≡ journal.place))

-- A database over this base was closed whose sessions had come so far: its last history is legal, goes on from what each has
-- seen, and has exactly the entries with a receipt of each that is not lost. Its journal has the whole of it; and if another epoch
-- begins, then over the last database.
pub record ClosesKept (base : Option Database) (has_failed : Type 0) (policy : SyncPolicy) (sessions : List KnownOfThreads) (journal : Kept) (next : Option (Option Database)) : Type 0 where
  pub end : Ending
  pub ends : Ends base sessions end
  pub whole : EndsWhole (syncs policy) has_failed (record { base = base; entries = end.history }) journal
  pub next_is : IfSome next (λ over. over ≡ Some (successor (last_database base end)))

-- An epoch over a base was served to its end, and its journal has the whole last history. If another one begins, then over
-- the last database, in which no session has called.
pub record EndsEpochOver (config : Config) (is_appended is_kept : List Entry → Type 0) (is_limit : ℕ → List Entry → Type 0) (has_failed : Type 0) (policy : SyncPolicy) (turns connections : ℕ) (base : Option Database) (journal : Kept)
    (next : Option (Option Database)) : Type 0 where
  pub keeper : KnownOfThreads
  pub end : Ending
  pub served : ServesKept base config is_appended is_kept is_limit has_failed (awaits policy) turns connections keeper end
  pub whole : EndsWhole (syncs policy) has_failed (record { base = base; entries = end.history }) journal
  pub next_is : IfSome next (λ over. over ≡ Some (successor (last_database base end)))

-- Of epochs whose databases are opened with these numbers: what an append of a file has said, what a sync of it has told, and what
-- is known once a failure was reported.
module _ (config : Config) (said told : Option (List ℕ) → Type 0) (has_failed : Type 0) (policy : SyncPolicy) (turns connections : ℕ) where
  -- the same, where entries are appended by what appends have said, and kept by what syncs have told
  abbrev pub EndsEpoch : Option Database → Kept → Option (Option Database) → Type 0
  EndsEpoch base journal next =
      EndsEpochOver config (IsKeptIn said base) (IsKeptIn told base) (IsLimitIn told base) has_failed policy turns connections base journal next

  -- an epoch that ended so, after which the next one began
  abbrev pub GoesOnAfter : Option Database → Kept → Option Database → Type 0
  GoesOnAfter base journal next = EndsEpoch base journal (Some next)

  -- epochs one after another, and the last of them with its journal
  pub record ServesEpochs (first : Option Database) (journal : Kept) : Type 0 where
    pub full : List Kept
    pub base : Option Database
    pub runs : FoldsTo GoesOnAfter first full base
    pub next : Option (Option Database)
    pub last : EndsEpoch base journal next
