-- The turns of a session.
use Rattle.std.proofs.Common.{true, Some, ◌≡◌, ℕ, ◌≤◌, ◌⊎◌, Bool, false, List, [], ◌∷◌, ◌++◌, length, take, Ok, Err, inl, inr, refl, ap, sym, ◌∙◌, subst, arith}
use Rattle.std.specs.Prelude.{Result}
use Rattle.std.proofs.lemmas.List.{append-nil, take_all}
use Rattle.model.specs.Command.{Command, Entry}
use Rattle.model.specs.Query.{Query, Changes}
use Rattle.model.specs.Database.{Database}
use Rattle.model.specs.History.{now, replay, base_of}
use Rattle.model.specs.Answers.{answer_to}
use Rattle.model.specs.Told.{NoneFalls}
use Rattle.http_framing.specs.Request.{Request}
use Rattle.http_framing.specs.Input.{Item, Requested, closes_connection}
use Rattle.http_request.specs.Decide.{decide}
use Rattle.http_request.specs.declared.asked.Asked.{Asked as Asking}
use Rattle.http_request.specs.declared.asked.Asked.TheVariants as asked
use Rattle.http_request.specs.declared.asked.Form.{Form}
use Rattle.http_request.specs.Extent.{extent_of}
use Rattle.http_request.specs.declared.extent.Extent.{Extent}
use Rattle.http_request.specs.declared.extent.Extent.TheVariants as extent
use Rattle.http_request.proofs.WholeAnswers.{asked-whole}
use Rattle.http_request.specs.declared.changes.ChangesAsked.{ChangesAsked}
use Rattle.http_request.specs.declared.changes.Feed.{Feed}
use Rattle.http_request.specs.declared.changes.Feed.TheVariants as feed
use Rattle.http_response.specs.Texts.{reply_text, answer_text, unavailable_text, no_memory_text}
use Rattle.http_response.specs.declared.memory.MemoryFor.TheVariants as memory_for
use Rattle.session_api.specs.declared.fault.Unavailable.TheVariants as unavailable
use Rattle.session_api.specs.Known.{Known, history_of, database_at, sees_more, with_calls}
use Rattle.http_turns.specs.ChangesWanted.{MayWait, changes_query, has_changes, since_at}
use Rattle.session_api.specs.Learns.{LeavesNone, LeavesUnsynced, Looks, WritesCall, Makes}
use Rattle.session_api.specs.SessionCall.{SessionCall, Refreshed}
use Rattle.session_api.specs.SessionCall as call
use Rattle.http_turns.specs.CallsOfRequest.{CarriesOut, IsNotContinuous, IsReading, LooksForChanges, WaitsWhereNone, HasPolled}
use Rattle.http_turns.specs.Outcome.{Outcome, Fixed, Wrote, WroteUntold, WroteUnsynced, Read, Memory, Failed, Placed, NamesSeen, places_spoken, written}
use Rattle.http_turns.specs.ResponseText.{AsksQuery, IsWritten, IsFixedText, HasFixedText, SaysAnswer, TellsAt, after_closing}
use Rattle.http_turns.specs.SessionTurn.{Answers, FollowsFrom, Sees}
use Rattle.http_turns.specs.Sent.{turn_of, Sends, SaysLost, SaysFault, SendsDue}
use Rattle.session_api.specs.declared.fault.CallFault.{CallFault}
use Rattle.session_api.specs.declared.fault.CallFault.TheVariants as fault
use Rattle.http_turns.specs.Replies.{AnswersLong, Replies, RepliesWith}
use Rattle.http_turns.specs.declared.response.Long.{Long}
use Rattle.http_turns.specs.declared.response.Reply.{Reply}
use Rattle.http_turns.specs.declared.response.Reply.TheVariants as reply
use Rattle.http_turns.specs.declared.response.Sent.{Sent}
use Rattle.http_turns.proofs.CallLaws.{IsQuery, carried_runs, only_runs, read_sees, refused_sees, where_none_sees}
use Rattle.session_api.proofs.Histories.{looks_length, looks_only, place_within, database_seen, database_before}

-- a turn with no new entry of the session's own
pub sees_none : (old : Known) (placed : Placed) (new : Known) → Looks (with_calls old new.pushes new.lost) new → written placed.outcome ≡ []
    → NoneFalls (length old.seen) (places_spoken placed.place placed.outcome ++ length new.seen ∷ []) → NamesSeen placed.outcome placed.place new.seen → Sees old placed new
sees_none old placed new looks none places names = record {
  more = looks.more;
  extends = looks.extends;
  entries = looks.none ∙ sym none;
  places = places;
  names = names;
}

module _ {S : Type 0} (goes : S → SessionCall → S → Type 0) (known : S → Known) (turns : ℕ) where
  abbrev Answer : S → Request → Sent → S → Type 0
  Answer old request sent new = Answers goes known turns old (turn_of (Requested request) sent) new

  -- ---- no call

  module _ (s : S) (place : ℕ) (place_is : place ≡ length (known s).seen) (sent : Sent) where
    unchanged : (item : Item) (outcome : Outcome) → written outcome ≡ [] → places_spoken place outcome ≡ place ∷ [] → NamesSeen outcome place (known s).seen
        → TellsAt (known s) (turn_of item sent) place outcome → FollowsFrom goes known turns item place outcome s [] s → Answers goes known turns s (turn_of item sent) s
    unchanged item outcome none one names told follows = record {
      placed = record { place = place; outcome = outcome; calls = [] };
      told = told;
      goes_by = record {
        runs = refl;
        follows = follows;
        sees = record {
          more = [];
          extends = (λ i. record (known s) { seen = sym (append-nil (known s).seen) i });
          entries = sym none;
          places = rw one (omega (arith, place_is), (omega (arith, place_is), tt));
          names = names;
        };
      };
    }

    -- memory was refused
    pub answers_lost : (request : Request) (extent : Extent) → extent ≡ extent_of request → SaysLost place extent memory_for.Call sent → Answer s request sent s
    answers_lost request extent is says =
        unchanged (Requested request) Memory refl refl place_is (says.0 ∙ ap (λ (e : Extent). no_memory_text place e memory_for.Call) is, says.1) (inl (refl, refl))

    -- the text of a refusal, or of `/`
    pub answers_fixed : (item : Item) (text : List ℕ) → HasFixedText place item text → Sends text (closes_connection item) sent
        → Answers goes known turns s (turn_of item sent) s
    answers_fixed item text fixed sends = unchanged item Fixed refl refl place_is (subst (HasFixedText place item) (sym sends.0) fixed, sends.1) (refl, refl)

    -- the text of what was decided, where that is a refusal or `/`
    pub answers_decided : (request : Request) (closes : Bool) → request.closes ≡ closes → (decided : _) (text : List ℕ) → decided ≡ decide request
        → IsFixedText place closes (extent_of request) decided text → Sends text closes sent → Answer s request sent s
    answers_decided request closes closes_is decided text is fixed sends =
        answers_fixed (Requested request) text
        (subst (λ (c : Bool). IsFixedText place c (extent_of request) (decide request) text) (sym closes_is)
        (subst (λ d. IsFixedText place closes (extent_of request) d text) is fixed))
        (sends.0, sends.1 ∙ sym closes_is)

  -- ---- queries

  module _ (old new : S) (request : Request) (asking : Asking) (asks : decide request ≡ Ok asking) (calls : List SessionCall) (reading : IsReading asking) (first : ℕ)
      (carried : CarriesOut goes known turns asking old calls new (Ok first)) (from : length (known old).seen ≤ first) (to : first ≤ length (known new).seen)
      (query : Query) (asks_query : AsksQuery (known new) (Requested request) first (length (known new).seen) query) where
    -- a turn whose text has the answer
    query_turn : (text : List ℕ) (after : Bool) → SaysAnswer (Requested request) text after (length (known new).seen) query (answer_to (now (history_of (known new))) query)
        → Answers goes known turns old (record { item = Requested request; text = text; closes = after; whole = true }) new
    query_turn text after says =
        let k = known new in
        let place = length k.seen in
        let all : take place k.seen ≡ k.seen = take_all place k.seen (omega arith) in
        let looks = read_sees goes known turns asking old calls new (Ok first) reading carried in
        let placed : Placed = record { place = place; outcome = Read first query (answer_to (now (history_of k)) query); calls = calls } in
        record {
          placed = placed;
          told = (record { asked = asks_query; told = (omega arith, ap (λ (es : List Entry). answer_to (replay (base_of k.base) es) query) (sym all)) }, says);
          goes_by = record {
            runs = carried_runs goes known turns asking old calls new (Ok first) carried;
            follows = (asking, asks, carried);
            sees = sees_none (known old) placed k (looks_only (known old) k looks) refl (from, (to, (omega arith, tt))) tt;
          };
        }

    -- a long answer, whole or cut
    query_long : {O : Type 0} (closes : Bool) → request.closes ≡ closes → (long : Long O)
        → RepliesWith (length (known new).seen) closes query (answer_to (now (history_of (known new))) query) (reply.Long long) → AnswersLong goes known turns request old long new
    query_long closes closes_is long said =
        let place = length (known new).seen in
        let answer = answer_to (now (history_of (known new))) query in
        let due : Some long.pieces ≡ answer_text place (after_closing request.closes) query answer = said.1 ∙ ap (λ (c : Bool). answer_text place (after_closing c) query answer) (sym closes_is) in
        record {
          whole = query_turn long.pieces long.closes
              (inl (said.1 ∙ ap (λ (c : Bool). answer_text place (after_closing c) query answer) (sym said.2), said.2 ∙ sym closes_is));
          cut = λ n lt. query_turn (take n long.pieces) true
              (inr (record { long = said.0; whole = long.pieces; due = due; len = n; short = lt; is_part = refl; closes_then = refl }));
        }

  -- ---- calls

  module _ (old new : S) (sent : Sent) (request : Request) (closes : Bool) (closes_is : request.closes ≡ closes) (asking : Asking) (asks : decide request ≡ Ok asking) (calls : List SessionCall) where
    -- no entry was written, and the response names the end of what was seen
    answers_none : (outcome : Outcome) (answer : Result ℕ CallFault) → CarriesOut goes known turns asking old calls new answer → Looks (with_calls (known old) (known new).pushes (known new).lost) (known new)
        → written outcome ≡ [] → places_spoken (length (known new).seen) outcome ≡ length (known new).seen ∷ [] → NamesSeen outcome (length (known new).seen) (known new).seen
        → TellsAt (known new) (turn_of (Requested request) sent) (length (known new).seen) outcome
        → FollowsFrom goes known turns (Requested request) (length (known new).seen) outcome old calls new → Answer old request sent new
    answers_none outcome answer carried looks none one names told follows =
        let place = length (known new).seen in
        let placed : Placed = record { place = place; outcome = outcome; calls = calls } in
        record {
          placed = placed;
          told = told;
          goes_by = record {
            runs = carried_runs goes known turns asking old calls new answer carried;
            follows = follows;
            sees = sees_none (known old) placed (known new) looks none (rw one (looks_length _ _ looks, (omega arith, tt))) names;
          };
        }

    -- memory was refused by the call, or for the answer
    answers_memory : (answer : Result ℕ CallFault) → CarriesOut goes known turns asking old calls new answer → Looks (with_calls (known old) (known new).pushes (known new).lost) (known new)
        → (CarriesOut goes known turns asking old calls new (Err fault.Memory) ⊎ (IsReading asking × ((first : ℕ) × CarriesOut goes known turns asking old calls new (Ok first))))
        → SaysLost (length (known new).seen) extent.Whole memory_for.Call sent → Answer old request sent new
    answers_memory answer carried looks why says =
        answers_none Memory answer carried looks refl refl refl
        (says.0 ∙ ap (λ (e : Extent). no_memory_text (length (known new).seen) e memory_for.Call) (sym (asked-whole request asking asks)), says.1)
        (inr (asking, asks, why))

    -- a call has no answer
    pub answers_fault : (why : CallFault) → CarriesOut goes known turns asking old calls new (Err why) → Looks (with_calls (known old) (known new).pushes (known new).lost) (known new)
        → SaysFault (length (known new).seen) closes why sent → Answer old request sent new
    answers_fault fault.Memory carried looks says = answers_memory (Err fault.Memory) carried looks (inl carried) says
    answers_fault (fault.Unavailable why) carried looks says =
        answers_none (Failed why) (Err (fault.Unavailable why)) carried looks refl refl refl (
          says.0 ∙ ap (λ (c : Bool). unavailable_text (length (known new).seen) (after_closing c) why) (sym says.1),
          says.1 ∙ sym closes_is,
        ) (asking, asks, carried)

    -- a query has no answer
    pub query_refused : (why : CallFault) → IsQuery asking → CarriesOut goes known turns asking old calls new (Err why) → SaysFault (length (known new).seen) closes why sent → Answer old request sent new
    query_refused why query carried says = answers_fault why carried (refused_sees goes known turns asking old calls new why query carried) says

    -- the answer to a query
    module _ (reading : IsReading asking) (first : ℕ) (carried : CarriesOut goes known turns asking old calls new (Ok first)) where
      pub answers_query : length (known old).seen ≤ first → first ≤ length (known new).seen → (query : Query)
          → AsksQuery (known new) (Requested request) first (length (known new).seen) query
          → SendsDue (answer_text (length (known new).seen) (after_closing closes) query (answer_to (now (history_of (known new))) query)) closes (length (known new).seen) memory_for.Call sent
          → Answer old request sent new
      answers_query from to query asks_query (inl sends) =
          let answer = answer_to (now (history_of (known new))) query in
          query_turn old new request asking asks calls reading first carried from to query asks_query sent.response sent.closes
          (inl (sends.0 ∙ ap (λ (c : Bool). answer_text (length (known new).seen) (after_closing c) query answer) (sym sends.1), sends.1 ∙ sym closes_is))
      answers_query from to query asks_query (inr says) =
          answers_memory (Ok first) carried (looks_only (known old) (known new) (read_sees goes known turns asking old calls new (Ok first) reading carried)) (inr (reading, (first, carried))) says

  module _ (old new : S) (request : Request) (closes : Bool) (closes_is : request.closes ≡ closes) (asking : Asking) (asks : decide request ≡ Ok asking) (calls : List SessionCall)
      (reading : IsReading asking) (first : ℕ) (carried : CarriesOut goes known turns asking old calls new (Ok first)) where
    -- the answer to a query, by its length
    replies_query : {O : Type 0} → length (known old).seen ≤ first → first ≤ length (known new).seen → (query : Query)
        → AsksQuery (known new) (Requested request) first (length (known new).seen) query → (r : Reply O)
        → RepliesWith (length (known new).seen) closes query (answer_to (now (history_of (known new))) query) r → Replies goes known turns request old r new
    replies_query from to query asks_query (reply.Sent sent) said =
        answers_query old new sent request closes closes_is asking asks calls reading first carried from to query asks_query said
    replies_query from to query asks_query (reply.Long long) said =
        query_long old new request asking asks calls reading first carried from to query asks_query closes closes_is long said
    replies_query from to query asks_query (reply.Feed changes) said = absurd said

  -- ---- one look

  -- what a look does, where it is asked for as a query or as changes that are not waited for
  abbrev Looked : S → S → Type 0
  Looked old new = Makes goes known old (Refreshed (Ok tt)) new

  module _ (old new : S) (request : Request) (closes : Bool) (closes_is : request.closes ≡ closes) where
    -- the answer to a query by what was seen last
    pub replies_asked : {O : Type 0} → Looked old new → (query : Query) → decide request ≡ Ok (asked.Query query) → (r : Reply O)
        → RepliesWith (length (known new).seen) closes query (answer_to (now (history_of (known new))) query) r → Replies goes known turns request old r new
    replies_asked makes query asks r said =
        replies_query old new request closes closes_is (asked.Query query) asks (Refreshed (Ok tt) ∷ []) tt (length (known new).seen) (Ok tt, (refl, makes), refl)
        (looks_length _ _ makes.learns.0) (omega arith) query (inl (refl, asks)) r said

    -- a look was refused
    pub answers_refused : (sent : Sent) (why : CallFault) → Makes goes known old (Refreshed (Err why)) new → (query : Query) → decide request ≡ Ok (asked.Query query)
        → SaysFault (length (known new).seen) closes why sent → Answer old request sent new
    answers_refused sent why makes query asks says =
        query_refused old new sent request closes closes_is (asked.Query query) asks (Refreshed (Err why) ∷ []) why tt (Err why, (refl, makes), refl) says

  -- ---- changes

  module _ (old new : S) (request : Request) (closes : Bool) (closes_is : request.closes ≡ closes) (changes : ChangesAsked) (asks : decide request ≡ Ok (asked.Changes changes)) where
    abbrev queried : Database → Query
    queried d = changes_query d changes

    -- a query for changes that were asked for at one place, to be answered at another
    asks_at : (first : ℕ) → MayWait changes.feed (database_at (known new) first) changes first (length (known new).seen)
        → AsksQuery (known new) (Requested request) first (length (known new).seen) (queried (database_at (known new) first))
    asks_at first waits = inr (record { changes = changes; asked = asks; waits = waits; query_is = refl })

    reading_by : (f : Feed) → changes.feed ≡ f → IsNotContinuous f → IsReading (asked.Changes changes)
    reading_by f is reading = subst IsNotContinuous (sym is) reading

    carried_by : (f : Feed) → changes.feed ≡ f → (calls : List SessionCall) (answer : Result ℕ CallFault) → LooksForChanges goes known turns changes f old calls new answer
        → CarriesOut goes known turns (asked.Changes changes) old calls new answer
    carried_by f is calls answer looks = subst (λ (g : Feed). LooksForChanges goes known turns changes g old calls new answer) (sym is) looks

    -- the changes that were seen last, by one look
    pub replies_changes : {O : Type 0} → changes.feed ≡ feed.Normal → Looked old new → (query : Query) → query ≡ queried (now (history_of (known new))) → (r : Reply O)
        → RepliesWith (length (known new).seen) closes query (answer_to (now (history_of (known new))) query) r → Replies goes known turns request old r new
    replies_changes normal makes query query_is r said =
        let k = known new in
        let place = length k.seen in
        let d = database_at k place in
        let is : query ≡ queried d = query_is ∙ ap queried (database_seen k) in
        let waits : MayWait changes.feed d changes place place = subst (λ (f : Feed). MayWait f d changes place place) (sym normal) refl in
        replies_query old new request closes closes_is (asked.Changes changes) asks (Refreshed (Ok tt) ∷ []) (reading_by feed.Normal normal tt) place
        (carried_by feed.Normal normal (Refreshed (Ok tt) ∷ []) (Ok place) (Ok tt, (refl, makes), refl))
        (looks_length _ _ makes.learns.0) (omega arith) query (subst (AsksQuery k (Requested request) place place) (sym is) (asks_at place waits)) r said

    -- a look for changes was refused
    pub changes_refused : (sent : Sent) (f : Feed) → changes.feed ≡ f → (calls : List SessionCall) (why : CallFault) → LooksForChanges goes known turns changes f old calls new (Err why)
        → SaysFault (length (known new).seen) closes why sent → Answer old request sent new
    changes_refused sent f is calls why looks says =
        query_refused old new sent request closes closes_is (asked.Changes changes) asks calls why tt (carried_by f is calls (Err why) looks) says

    may_be_later : (here : S) (waits : List SessionCall) → WaitsWhereNone goes known turns changes here waits new (Ok (length (known here).seen))
        → now (history_of (known here)) ≡ database_at (known new) (length (known here).seen)
        → MayWait feed.LongPoll (database_at (known new) (length (known here).seen)) changes (length (known here).seen) (length (known new).seen)
    may_be_later here waits (inl (some, none, is)) same = inl (ap (λ (s : S). length (known s).seen) (sym none.1))
    may_be_later here waits (inr (none, wait)) same = inr (subst (λ (d : Database). has_changes d (since_at d changes.since) changes.ids ≡ false) same none)

    -- the changes that were seen last, by a long poll
    pub replies_polled : {O : Type 0} → changes.feed ≡ feed.LongPoll → (calls : List SessionCall) (since : ℕ) → HasPolled goes known turns changes old calls new (Ok since)
        → (query : Query) → query ≡ Changes since changes.limit changes.style changes.ids → (r : Reply O)
        → RepliesWith (length (known new).seen) closes query (answer_to (now (history_of (known new))) query) r → Replies goes known turns request old r new
    replies_polled polls calls since (inl (why, only, is)) query query_is r said = absurd (cc)
    replies_polled polls calls since (inr (here, waits, all, makes, (since_is, rest))) query query_is r said =
        let k = known new in
        let first = length (known here).seen in
        let place = length k.seen in
        let looks = where_none_sees goes known turns changes here waits new (Ok first) makes.learns.0.legal rest in
        let same = database_before (known here) k looks in
        let is : query ≡ queried (database_at k first) = query_is ∙ ap (λ (n : ℕ). Changes n changes.limit changes.style changes.ids) since_is ∙ ap queried same in
        let may_wait : MayWait changes.feed (database_at k first) changes first place = subst (λ (f : Feed). MayWait f (database_at k first) changes first place) (sym polls) (may_be_later here waits rest same) in
        replies_query old new request closes closes_is (asked.Changes changes) asks calls (reading_by feed.LongPoll polls tt) first
        (carried_by feed.LongPoll polls calls (Ok first) (inr (here, waits, all, makes, rest)))
        (looks_length _ _ makes.learns.0) (looks_length _ _ looks) query (subst (AsksQuery k (Requested request) first place) (sym is) (asks_at first may_wait)) r said

  -- ---- an entry

  module _ (old new : S) (sent : Sent) (request : Request) (closes : Bool) (closes_is : request.closes ≡ closes) (form : Form) (command : Command) (asks : decide request ≡ Ok (asked.Command form command)) where
    -- the entry of the command, as what is asked
    is_written : (place : ℕ) (writes : WritesCall (known old) command place (known new)) → IsWritten (known new) (Requested request) place form writes.entry
    is_written place writes = record {
      asked = asks ∙ ap (λ (c : Command). Ok (asked.Command form c)) (sym writes.asked);
      own = writes.own ∙ ap (λ (k : Known). k.number) (sym writes.extends);
      told = writes.told;
    }

    writes_extends : (place : ℕ) (writes : WritesCall (known old) command place (known new)) → known new ≡ with_calls (sees_more (known old) writes.more) (known new).pushes (known new).lost
    writes_extends place writes =
        writes.extends ∙ (λ i. record (known old) { seen = (known old).seen ++ writes.more; pushes = (known new).pushes; lost = ap (λ (k : Known). k.lost) (sym writes.extends) i })

    -- the entry is there, and the journal failed behind it
    answers_unsynced : (place : ℕ) (writes : WritesCall (known old) command place (known new)) → Makes goes known old (call.Wrote command (Err (fault.Unavailable unavailable.Journal))) new
        → SaysFault (length (known new).seen) closes (fault.Unavailable unavailable.Journal) sent → Answer old request sent new
    answers_unsynced place writes makes says =
        let why : Result ℕ CallFault = Err (fault.Unavailable unavailable.Journal) in
        let calls : List SessionCall = call.Wrote command why ∷ [] in
        let within : place ≤ length (known new).seen = place_within (known new) place writes.entry writes.told in
        record {
          placed = record { place = length (known new).seen; outcome = WroteUnsynced place form writes.entry; calls = calls };
          told = (
            is_written place writes,
            says.0 ∙ ap (λ (c : Bool). unavailable_text (length (known new).seen) (after_closing c) unavailable.Journal) (sym says.1),
            says.1 ∙ sym closes_is,
          );
          goes_by = record {
            runs = only_runs goes known old (call.Wrote command why) calls new (refl, makes);
            follows = subst (λ (c : Command). CarriesOut goes known turns (asked.Command form c) old calls new why) (sym writes.asked) (refl, makes);
            sees = record {
              more = writes.more;
              extends = writes_extends place writes;
              entries = writes.only;
              places = (omega (arith, writes.above), (within, (omega arith, tt)));
              names = refl;
            };
          };
        }

    -- the call has no answer
    pub command_refused : (why : CallFault) → Makes goes known old (call.Wrote command (Err why)) new → SaysFault (length (known new).seen) closes why sent → Answer old request sent new
    command_refused why makes says = by_learnt makes.learns
      where
        by_learnt : LeavesNone (known old) command why (known new) ⊎ LeavesUnsynced (known old) command why (known new) → Answer old request sent new
        by_learnt (inl leaves) = answers_fault old new sent request closes closes_is (asked.Command form command) asks (call.Wrote command (Err why) ∷ []) why (refl, makes) leaves.looks says
        by_learnt (inr leaves) =
            answers_unsynced leaves.place leaves.writes (subst (λ (w : CallFault). Makes goes known old (call.Wrote command (Err w)) new) leaves.why_is makes)
            (subst (λ (w : CallFault). SaysFault (length (known new).seen) closes w sent) leaves.why_is says)

    module _ (place : ℕ) (makes : Makes goes known old (call.Wrote command (Ok place)) new) where
      abbrev writes : WritesCall (known old) command place (known new)
      writes = makes.learns.0

      answers_entry : (outcome : Outcome) → written outcome ≡ writes.entry ∷ [] → places_spoken place outcome ≡ place ∷ [] → NamesSeen outcome place (known new).seen
          → TellsAt (known new) (turn_of (Requested request) sent) place outcome
          → FollowsFrom goes known turns (Requested request) place outcome old (call.Wrote command (Ok place) ∷ []) new → Answer old request sent new
      answers_entry outcome one spoken names told follows =
          let placed : Placed = record { place = place; outcome = outcome; calls = call.Wrote command (Ok place) ∷ [] } in
          record {
            placed = placed;
            told = told;
            goes_by = record {
              runs = only_runs goes known old (call.Wrote command (Ok place)) _ new (refl, makes);
              follows = follows;
              sees = record {
                more = writes.more;
                extends = writes_extends place writes;
                entries = writes.only ∙ sym one;
                places = rw spoken (omega (arith, writes.above), (place_within (known new) place writes.entry writes.told, tt));
                names = names;
              };
            };
          }

      follows : CarriesOut goes known turns (asked.Command form writes.entry.command) old (call.Wrote command (Ok place) ∷ []) new (Ok place)
      follows = subst (λ (c : Command). CarriesOut goes known turns (asked.Command form c) old (call.Wrote command (Ok place) ∷ []) new (Ok place)) (sym writes.asked) (refl, makes)

      -- the reply to the command
      pub answers_command : SendsDue (reply_text place (after_closing closes) form writes.entry.command writes.entry.reply) closes place memory_for.Reply sent → Answer old request sent new
      answers_command (inl sends) =
          answers_entry (Wrote form writes.entry) refl refl tt (
            is_written place writes,
            sends.0 ∙ ap (λ (c : Bool). reply_text place (after_closing c) form writes.entry.command writes.entry.reply) (sym sends.1),
            sends.1 ∙ sym closes_is,
          ) follows
      answers_command (inr says) = answers_entry (WroteUntold form writes.entry) refl refl tt (is_written place writes, says.0, says.1) follows
