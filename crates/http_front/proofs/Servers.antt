-- What the sessions of a server come to.
use Rattle.std.proofs.Common.{◌≡◌, ℕ, ◌<◌, ◌≤◌, ◌-◌, List, length, map, take, drop, ◌++◌, [], ◌∷◌, Option, None, Some, sym, refl, ◌∙◌, ap, subst, arith, slice_index_or}
use Rattle.std.specs.Prelude.{IfNone}
use Rattle.std.specs.List.{range_with_len}
use Rattle.std.proofs.lemmas.Option.{none-some}
use Rattle.std.proofs.lemmas.List.{length-take, take-append-le, take_all}
use Rattle.std.proofs.lemmas.List.FromFn.{get_or-map-range_with_len, length-map-range_with_len}
use Rattle.model.specs.Database.{Database}
use Rattle.model.specs.World.{Config}
use Rattle.streams.specs.Streams.{Streams}
use Rattle.http_connection.specs.declared.outcome.Ended.{Ended}
use Rattle.sessions.specs.Known.{Known as KnownOfThreads, fresh}
use Rattle.history_lock.specs.Ending.{Ending, Ends}
use Rattle.http_workers.specs.Worker.{ServesCounted}
use Rattle.http_turns.specs.Connection.{IsConnection}
use Rattle.session_calls.specs.Sessions.{Goes, known_of as known_of_session}
use Rattle.http_front.specs.Opening.{GoesBy, known_of}
use Rattle.http_front.specs.Once.{ServesDatabase, once_turns}
use Rattle.http_front.specs.Server.{ServesSessions}

-- a reader and a writer
abbrev pub streams_of : {R W : Type 0} → (R → Option (List ℕ)) → (R → ℕ) → (W → Option (List ℕ)) → (W → ℕ) → R → W → Streams
streams_of left failed_reads taken failed_writes r w = record { left = left r; failed_reads = failed_reads r; taken = taken w; failed_writes = failed_writes w }

-- each session served from its first state on
abbrev pub ServesEach : Option Database → Config → ℕ → ℕ → ℕ → ℕ → List KnownOfThreads → List KnownOfThreads → Type 0
ServesEach base config sessions queue turns connections before after =
    (i : ℕ) (d : KnownOfThreads) → i < length before
    → ServesCounted (Goes base config sessions queue) (known_of_session base config sessions queue) turns connections (slice_index_or before i d) (slice_index_or after i d)

-- what is said of sessions by the numbers of a name holds of those that the database was opened with
named : (P : Config → ℕ → ℕ → Type 0) (config told : Config) (sessions queue : ℕ) → told ≡ config → told.sessions ≡ sessions → told.queue ≡ queue → (right : Config) → told ≡ right
    → P config sessions queue → P right right.sessions right.queue
named P config told sessions queue config_is sessions_is queue_is right right_is p =
    subst (λ (c : Config). P c c.sessions c.queue) right_is
    (subst (λ (q : ℕ). P told told.sessions q) (sym queue_is) (subst (λ (n : ℕ). P told n queue) (sym sessions_is) (subst (λ (c : Config). P c sessions queue) (sym config_is) p)))

serves_sessions : (base : Option Database) (config : Config) (turns connections : ℕ) (before after : List KnownOfThreads) (closed : Ending)
    → before ≡ map fresh (range_with_len 0 config.sessions) → length after ≡ length before → ServesEach base config config.sessions config.queue turns connections before after → Ends base after closed
    → ServesSessions base config turns connections
serves_sessions base config turns connections before after closed new long serves ends =
    let workers = config.sessions in
    let count : length before ≡ workers = ap length new ∙ length-map-range_with_len fresh 0 workers in
    record {
      finals = after;
      count = long ∙ count;
      each = λ i d within.
          let from = ap (λ (items : List KnownOfThreads). slice_index_or items i d) new ∙ get_or-map-range_with_len fresh 0 workers i i d within (omega arith) in
          subst (λ (k : KnownOfThreads). ServesCounted (GoesBy base config) (known_of base config) turns connections k (slice_index_or after i d)) from (serves i d (omega (arith, count, within)));
      end = closed;
      ends = ends;
    }

-- the same of sessions that are lent as a slice, and come back as long as they were
pub serves_closed : (base : Option Database) (config : Config) (turns connections len : ℕ) (items lent new : List KnownOfThreads) (closed : Ending)
    → items ≡ map fresh (range_with_len 0 config.sessions) → lent ≡ items → length lent ≡ len → length new ≡ length lent
    → ServesEach base config config.sessions config.queue turns connections lent new → Ends base (take len (new ++ drop (length new) items)) closed → ServesSessions base config turns connections
serves_closed base config turns connections len items lent new closed opened is long kept serves ends =
    let all : take len (new ++ drop (length new) items) ≡ new = take-append-le len new (drop (length new) items) (omega (arith, long, kept)) ∙ take_all len new (omega (arith, long, kept)) in
    serves_sessions base config turns connections lent new closed (is ∙ opened) kept serves (subst (λ (after : List KnownOfThreads). Ends base after closed) all ends)

-- no more of them come back than were lent
pub lent_back : (items after : List KnownOfThreads) (len most : ℕ) → len ≡ length items → length items ≤ most → length (take len after) ≤ most
lent_back items after len most long within = omega (arith, length-take len after)

-- the same where a name gives the numbers
pub serves_named : (base : Option Database) (config told : Config) (sessions queue turns connections len : ℕ) (items lent new : List KnownOfThreads) (closed : Ending)
    → told ≡ config → told.sessions ≡ sessions → told.queue ≡ queue → (right : Config) → told ≡ right → (often : ℕ) → often ≡ turns
    → items ≡ map fresh (range_with_len 0 told.sessions) → lent ≡ items → length lent ≡ len → length new ≡ length lent
    → ServesEach base config sessions queue often connections lent new → Ends base (take len (new ++ drop (length new) items)) closed → ServesSessions base right turns connections
serves_named base config told sessions queue turns connections len items lent new closed config_is sessions_is queue_is right right_is often often_is opened is long kept serves ends =
    serves_closed base right turns connections len items lent new closed (opened ∙ ap (λ (c : Config). map fresh (range_with_len 0 c.sessions)) right_is) is long kept
    (subst (λ (n : ℕ). ServesEach base right right.sessions right.queue n connections lent new) often_is
    (named (λ c n q. ServesEach base c n q often connections lent new) config told sessions queue config_is sessions_is queue_is right right_is serves)) ends

-- the first of the sessions of a database with one
first_fresh : (items : List KnownOfThreads) (count : ℕ) (d : KnownOfThreads) → items ≡ map fresh (range_with_len 0 count) → count ≡ 1 → d ≡ slice_index_or items 0 d → d ≡ fresh 0
first_fresh items count d opened one is =
    is ∙ ap (λ (xs : List KnownOfThreads). slice_index_or xs 0 d) (opened ∙ ap (λ (n : ℕ). map fresh (range_with_len 0 n)) one) ∙ get_or-map-range_with_len fresh 0 1 0 0 d (omega arith) refl

-- the same of the last of them, which was taken
pub popped_fresh : (items : List KnownOfThreads) (count len : ℕ) (k : KnownOfThreads) → items ≡ map fresh (range_with_len 0 count) → count ≡ 1 → len ≡ length items
    → ((d : KnownOfThreads) → 0 < len → Some k ≡ Some (slice_index_or items (len - 1) d)) → k ≡ fresh 0
popped_fresh items count len k opened one long last =
    let is_one : len ≡ 1 = long ∙ ap length opened ∙ length-map-range_with_len fresh 0 count ∙ one in
    let at : len - 1 ≡ 0 = omega (arith, is_one) in
    let taken : Some k ≡ Some (slice_index_or items (len - 1) k) = last k (omega (arith, is_one)) in
    let value : k ≡ slice_index_or items (len - 1) k = cc in
    first_fresh items count k opened one (value ∙ ap (λ (n : ℕ). slice_index_or items n k) at)

take_none : (xs : List KnownOfThreads) → take 0 xs ≡ []
take_none [] = refl
take_none (x ∷ xs) = refl

-- and then none is left
pub none_left : (items popped : List KnownOfThreads) (count len : ℕ) → items ≡ map fresh (range_with_len 0 count) → count ≡ 1 → len ≡ length items → popped ≡ take (len - 1) items
    → popped ≡ []
none_left items popped count len opened one long rest =
    let is_one : len ≡ 1 = long ∙ ap length opened ∙ length-map-range_with_len fresh 0 count ∙ one in
    let at : len - 1 ≡ 0 = omega (arith, is_one) in
    rest ∙ ap (λ (n : ℕ). take n items) at ∙ take_none items

-- the only session served a connection, and was closed
pub serves_database : (base : Option Database) (config told : Config) (sessions queue : ℕ) (before after : Streams) (old new : KnownOfThreads) (closing : List KnownOfThreads) (ended : Ended) (closed : Ending)
    → told ≡ config → told.sessions ≡ sessions → told.queue ≡ queue → (right : Config) → told ≡ right → old ≡ fresh 0 → (turns : ℕ) → turns ≡ once_turns
    → IsConnection (Goes base config sessions queue) (known_of_session base config sessions queue) turns before after old new ended → closing ≡ new ∷ [] → Ends base closing closed
    → ServesDatabase base right before after ended closed
serves_database base config told sessions queue before after old new closing ended closed config_is sessions_is queue_is right right_is first turns turns_is connection one ends =
    let here = named (λ c n q. IsConnection (Goes base c n q) (known_of_session base c n q) once_turns before after old new ended) config told sessions queue config_is sessions_is queue_is right right_is
    (subst (λ (n : ℕ). IsConnection (Goes base config sessions queue) (known_of_session base config sessions queue) n before after old new ended) turns_is connection) in
    record {
      final = new;
      connection = subst (λ (k : KnownOfThreads). IsConnection (GoesBy base right) (known_of base right) once_turns before after k new ended) first here;
      ends = subst (λ (ks : List KnownOfThreads). Ends base ks closed) one ends;
    }

-- what holds where there is nothing
pub where_none : {A P : Type 0} (o : Option A) → IfNone o P → o ≡ None → P
where_none None holds is = holds
where_none (Some x) holds is = absurd (none-some x (sym is))

-- the same reader and writer
pub same_streams : {R W : Type 0} (left : R → Option (List ℕ)) (failed_reads : R → ℕ) (taken : W → Option (List ℕ)) (failed_writes : W → ℕ) (r r' : R) (w w' : W) → r' ≡ r → w' ≡ w
    → streams_of left failed_reads taken failed_writes r' w' ≡ streams_of left failed_reads taken failed_writes r w
same_streams left failed_reads taken failed_writes r r' w w' reader writer = λ i. streams_of left failed_reads taken failed_writes (reader i) (writer i)
