-- What the sessions of a server come to whose history a journal keeps.
use Rattle.std.proofs.Common.{◌≡◌, ℕ, suc, ◌+◌, ◌-◌, ◌<◌, List, [], ◌∷◌, ◌++◌, length, map, take, Bool, Option, Some, None, sym, ◌∙◌, ap, subst, arith, slice_index_or, length-append}
use mathlib.Core.List.{IsPrefix}
use Rattle.model.specs.Command.{Entry}
use Rattle.std.specs.Prelude.{IfSome, All, option_map}
use Rattle.std.specs.List.{range_with_len}
use Rattle.std.proofs.lemmas.List.{append-nil, get_or-map, length-map, nil_from_length}
use Rattle.std.proofs.lemmas.List.FromFn.{get_or-map-range_with_len, length-map-range_with_len, take-map-range_with_len}
use Rattle.model.specs.Database.{Database}
use Rattle.model.specs.History.{base_of, now, replay, successor}
use Rattle.model.specs.World.{Config}
use Rattle.sessions.specs.Known.{Known as KnownOfThreads, fresh, seen}
use Rattle.history_lock.specs.Ending.{Ending, Ends}
use Rattle.history_lock.specs.Successors.{last_database}
use Rattle.session_api.specs.SessionCall.{SessionCall}
use Rattle.session_api.specs.Known.{Known}
use Rattle.http_workers.specs.Worker.{ServesFew}
use Rattle.session_calls.specs.Sessions.{Goes, known_of as known_of_session}
use Rattle.durable_calls.specs.Kept.{Answering, GoesKept}
use Rattle.journal_front.specs.Server.{AllJournaled, ServesDurably, ServesKept}
use Rattle.journal_front.proofs.Progress.{journaled_more}

-- over a base, and what is known of its journal
module _ (base : Option Database) (is_appended is_kept : List Entry → Type 0) (is_limit : ℕ → List Entry → Type 0) (has_failed : Type 0) where
  -- sessions served, by these numbers
  abbrev pub ServesAs : Bool → ℕ → ℕ → List Entry → Config → ℕ → ℕ → List KnownOfThreads → List KnownOfThreads → Type 0
  ServesAs waits turns connections entries config sessions queue before after =
      ServesDurably (λ (o : KnownOfThreads) (d : SessionCall) (n : KnownOfThreads). Goes base config sessions queue o d n) (λ (k : KnownOfThreads). known_of_session base config sessions queue k)
      is_appended is_kept is_limit has_failed waits turns connections entries before after

  -- what is said by the numbers of a name holds by those that the database was opened with
  named : (P : Config → ℕ → ℕ → Type 0) (config told : Config) (sessions queue : ℕ) → told ≡ config → told.sessions ≡ sessions → told.queue ≡ queue → P config sessions queue → P told told.sessions told.queue
  named P config told sessions queue config_is sessions_is queue_is p =
      subst (λ (q : ℕ). P told told.sessions q) (sym queue_is) (subst (λ (n : ℕ). P told n queue) (sym sessions_is) (subst (λ (c : Config). P c sessions queue) (sym config_is) p))

  -- all sessions but the last one serve
  module _ (told : Config) (waits : Bool) (turns connections : ℕ) (entries : List Entry) (opened after : List KnownOfThreads) (some : 0 < told.sessions)
      (opened_is : opened ≡ map fresh (range_with_len 0 told.sessions)) where
    count : length opened ≡ told.sessions
    count = ap length opened_is ∙ length-map-range_with_len fresh 0 told.sessions

    rest_fresh : take (length opened - 1) opened ≡ map fresh (range_with_len 0 (length opened - 1))
    rest_fresh = ap (take (length opened - 1)) opened_is ∙ take-map-range_with_len fresh 0 told.sessions (length opened - 1) (omega (arith, count))

    rest_count : length (take (length opened - 1) opened) ≡ length opened - 1
    rest_count = ap length rest_fresh ∙ length-map-range_with_len fresh 0 (length opened - 1)

    rest_at : (i : ℕ) (d : KnownOfThreads) → i < length opened - 1 → slice_index_or (take (length opened - 1) opened) i d ≡ fresh i
    rest_at i d within = ap (λ (ks : List KnownOfThreads). slice_index_or ks i d) rest_fresh ∙ get_or-map-range_with_len fresh 0 (length opened - 1) i i d within (omega arith)

    pub serves_kept : (config : Config) (sessions queue : ℕ) (keeper : KnownOfThreads) (end : Ending) → told ≡ config → told.sessions ≡ sessions → told.queue ≡ queue
        → ServesAs waits turns connections entries config sessions queue (take (length opened - 1) opened) after → IsPrefix entries end.history → Ends base (after ++ keeper ∷ []) end
        → ServesKept base told is_appended is_kept is_limit has_failed waits turns connections keeper end
    serves_kept config sessions queue keeper end config_is sessions_is queue_is serves begins ends =
        let served : ServesAs waits turns connections entries told told.sessions told.queue (take (length opened - 1) opened) after =
        named (λ c n q. ServesAs waits turns connections entries c n q (take (length opened - 1) opened) after) config told sessions queue config_is sessions_is queue_is serves in
        record {
          finals = served.finals;
          count = omega (arith, served.count, rest_count, count, some);
          each = λ i d within.
              let less : i < length opened - 1 = omega (arith, within, served.count, rest_count) in
              let here : i < length (take (length opened - 1) opened) = omega (arith, within, served.count) in
              subst (λ (k : KnownOfThreads). ServesFew (λ (old : Answering KnownOfThreads) (call : SessionCall) (new : Answering KnownOfThreads).
              GoesKept (λ (o : KnownOfThreads) (e : SessionCall) (n : KnownOfThreads). Goes base told told.sessions told.queue o e n) (λ (o : KnownOfThreads). known_of_session base told told.sessions told.queue o)
              is_appended is_kept is_limit has_failed old call new)
              (λ (k : Answering KnownOfThreads). known_of_session base told told.sessions told.queue k.0) turns connections (k, (waits, [])) (slice_index_or served.finals i d)) (rest_at i d.0 less) (served.each i d here);
          ends = subst (λ (ks : List KnownOfThreads). Ends base (ks ++ keeper ∷ []) end) served.after_is ends;
          journaled = journaled_more entries end.history served.finals begins served.journaled;
        }

    -- with the last one they are all
    pub all_served : (config : Config) (sessions queue : ℕ) → ServesAs waits turns connections entries config sessions queue (take (length opened - 1) opened) after → length after + 1 ≡ told.sessions
    all_served config sessions queue served = omega (arith, ap length served.after_is, length-map served.finals (λ (k : Answering KnownOfThreads). k.0), served.count, rest_count, count, some)

-- a list that begins with another one, and is as long, is the same
prefix_same : {X : Type 0} (xs ys : List X) → IsPrefix xs ys → length ys ≡ length xs → ys ≡ xs
prefix_same xs ys (t, is) same =
    let none : t ≡ [] = nil_from_length t (omega (arith, same, ap length is, length-append xs t)) in
    sym is ∙ ap (λ (more : List _). xs ++ more) none ∙ append-nil xs

all_last : {X : Type 0} (P : X → Type 0) (xs : List X) (last : X) → All P (xs ++ last ∷ []) → P last
all_last P [] last all = all 0 last (omega arith)
all_last P (x ∷ xs) last all = all_last P xs last (λ k d within. all (suc k) d (omega (arith, within)))

-- what the last session has seen begins the last history
pub keeper_begins : (base : Option Database) (closing finals : List KnownOfThreads) (keeper : KnownOfThreads) (end : Ending) → closing ≡ finals ++ keeper ∷ [] → Ends base closing end → IsPrefix (seen keeper) end.history
keeper_begins base closing finals keeper end closing_is ends =
    all_last (λ (k : KnownOfThreads). IsPrefix (seen k) end.history) finals keeper (subst (λ (ks : List KnownOfThreads). All (λ (k : KnownOfThreads). IsPrefix (seen k) end.history) ks) closing_is ends.extends)

-- a session that has seen as many entries as the last history has saw its last database
pub last_seen : (base : Option Database) (closing finals : List KnownOfThreads) (keeper : KnownOfThreads) (end : Ending) (place count : ℕ) → closing ≡ finals ++ keeper ∷ [] → Ends base closing end
    → place ≡ length (seen keeper) → count ≡ length end.history → count ≡ place → last_database base end ≡ now (record { base = base; entries = seen keeper })
last_seen base closing finals keeper end place count closing_is ends place_is count_is same =
    let extends : All (λ (k : KnownOfThreads). IsPrefix (seen k) end.history) (finals ++ keeper ∷ []) = subst (λ (ks : List KnownOfThreads). All (λ (k : KnownOfThreads). IsPrefix (seen k) end.history) ks) closing_is ends.extends in
    ap (replay (base_of base)) (prefix_same (seen keeper) end.history (all_last (λ (k : KnownOfThreads). IsPrefix (seen k) end.history) finals keeper extends) (omega (arith, place_is, count_is, same)))

-- the next epoch begins from the last database, where that was seen
pub next_over : {E : Type 0} (over : E → Option Database) (next result : Option E) (last here : Database) (places seen_places : ℕ) → (places ≡ seen_places → last ≡ here)
    → IfSome (option_map over next) (λ base. base ≡ Some (successor here)) → IfSome result (λ e. (places ≡ seen_places) × (next ≡ Some e)) → IfSome (option_map over result) (λ base. base ≡ Some (successor last))
next_over over next None last here places seen_places all begun from = from
next_over over next (Some e) last here places seen_places all begun (same, from) =
    subst (λ (n : Option _). IfSome (option_map over n) (λ base. base ≡ Some (successor here))) from begun ∙ ap (λ (d : Database). Some (successor d)) (sym (all same))

-- sessions that answer what a journal has, and await or not that it is kept, served
module _ {S : Type 0} (goes : S → SessionCall → S → Type 0) (known : S → Known) (is_appended is_kept : List Entry → Type 0) (is_limit : ℕ → List Entry → Type 0) (has_failed : Type 0) where
  pub served_durably : (waits told : Bool) (turns connections : ℕ) (entries first : List Entry) (before after : List S) (durable finals : List (Answering S))
      → told ≡ waits → first ≡ [] → durable ≡ map (λ (s : S). (s, (told, first))) before → length finals ≡ length durable
      → ((i : ℕ) (d : Answering S) → i < length durable
      → ServesFew (λ (old : Answering S) (call : SessionCall) (new : Answering S). GoesKept goes known is_appended is_kept is_limit has_failed old call new) (λ (k : Answering S). known k.0) turns connections
      (slice_index_or durable i d) (slice_index_or finals i d))
      → after ≡ map (λ (k : Answering S). k.0) finals → AllJournaled entries finals
      → ServesDurably goes known is_appended is_kept is_limit has_failed waits turns connections entries before after
  served_durably waits told turns connections entries first before after durable finals told_is first_is durable_is same serves after_is journaled =
      let each_is : durable ≡ map (λ (s : S). (s, (waits, []))) before =
      durable_is ∙ ap (λ (w : Bool). map (λ (s : S). (s, (w, first))) before) told_is ∙ ap (λ (es : List Entry). map (λ (s : S). (s, (waits, es))) before) first_is in
      let long : length durable ≡ length before = ap length each_is ∙ length-map before (λ (s : S). (s, (waits, []))) in
      record {
        finals = finals;
        after_is = after_is;
        count = same ∙ long;
        each = λ i d within.
            let at : slice_index_or durable i d ≡ (slice_index_or before i d.0, (waits, [])) =
            ap (λ (ks : List (Answering S)). slice_index_or ks i d) each_is ∙ get_or-map (λ (s : S). (s, (waits, []))) before i d.0 d within in
            subst (λ (k : Answering S). ServesFew (λ (old : Answering S) (call : SessionCall) (new : Answering S). GoesKept goes known is_appended is_kept is_limit has_failed old call new) (λ (k : Answering S). known k.0) turns connections
            k (slice_index_or finals i d)) at (serves i d (omega (arith, within, long)));
        journaled = journaled;
      }

  -- the same sessions, as often
  pub served_from : (waits : Bool) (turns often connections : ℕ) (entries : List Entry) (before rest after : List S) → often ≡ turns → rest ≡ before
      → ServesDurably goes known is_appended is_kept is_limit has_failed waits often connections entries rest after → ServesDurably goes known is_appended is_kept is_limit has_failed waits turns connections entries before after
  served_from waits turns often connections entries before rest after often_is rest_is serves =
      subst (λ (n : ℕ). ServesDurably goes known is_appended is_kept is_limit has_failed waits n connections entries before after) often_is
      (subst (λ (ks : List S). ServesDurably goes known is_appended is_kept is_limit has_failed waits often connections entries ks after) rest_is serves)
