-- Turns of a session are determined by the history at their end.
use Rattle.std.proofs.Common.{◌≡◌, ℕ, ◌≤◌, List, [], ◌∷◌, ◌++◌, length, take, Bool, true, inl, inr, refl, ap, sym, ◌∙◌, subst, arith, append_assoc, length-append}
use Rattle.std.specs.Prelude.{IsTrue}
use Rattle.std.specs.List.{FoldsTo, AllZip}
use Rattle.std.proofs.lemmas.List.{append-nil}
use Rattle.model.specs.Command.{Entry}
use Rattle.model.specs.Changes.{rows_since, wanted_by}
use Rattle.model.specs.Database.{Database}
use Rattle.model.specs.History.{IsLegal, of_session, base_of}
use Rattle.model.specs.World.{WroteAt, Asked as AskedAt}
use Rattle.model.specs.Told.{NoneFalls}
use Rattle.model.proofs.TellLaws.{Tells-append}
use Rattle.http_framing.specs.Input.{closes_connection}
use Rattle.http_connection.specs.Turn.{Turn, all_turns}
use Rattle.streams.specs.Streams.{Streams}
use Rattle.http_connection.specs.Served.{Served}
use Rattle.http_connection.specs.declared.outcome.Ended.{Ended}
use Rattle.session_api.specs.SessionCall.{SessionCall}
use Rattle.session_api.specs.Known.{Known, database_at, sees_more, with_calls}
use Rattle.http_turns.specs.ChangesWanted.{MayWait, changes_query}
use Rattle.http_turns.specs.Outcome.{Outcome, Fixed, Wrote, WroteUntold, WroteUnsynced, Read, Fed, Memory, Failed, Placed, places_spoken, written}
use Rattle.http_turns.specs.ResponseText.{AsksQuery, IsToldAt, IsWritten, IsRead, IsFed, SaysAnswer, TellsAt}
use Rattle.http_turns.specs.Feed.{Piece, Ending, LastLine, LookRefused, RowsRefused, WriteFailed, GivesPiece, EndsBy, feed_start}
use Rattle.http_turns.specs.declared.progress.Progress.{Progress}
use Rattle.http_turns.specs.SessionTurn.{Answers}
use Rattle.http_turns.specs.Connection.{IsConnection, GoesInTurn, all_places, entries_written}
use Rattle.session_api.proofs.Histories.{of_session-append, falls_on, database-more}

module _ (k : Known) (more : List Entry) where
  written-append : {item : _} {place : ℕ} {form : _} {entry : Entry} → IsWritten k item place form entry → IsWritten (sees_more k more) item place form entry
  written-append {place = place} {entry = entry} w = record {
    asked = w.asked;
    own = w.own;
    told = Tells-append (base_of k.base) k.seen more (WroteAt entry.seat entry.command place entry.reply) w.told;
  }

  asks-append : {item : _} {first place : ℕ} {query : _} → first ≤ length k.seen → AsksQuery k item first place query → AsksQuery (sees_more k more) item first place query
  asks-append within (inl asks) = inl asks
  asks-append {first = first} {place = place} {query = query} within (inr asks) = inr (record {
    changes = asks.changes;
    asked = asks.asked;
    waits = subst (λ (d : Database). MayWait asks.changes.feed d asks.changes first place) (database-more k more first within) asks.waits;
    query_is = asks.query_is ∙ ap (λ (d : Database). changes_query d asks.changes) (database-more k more first within);
  })

  read-append : {item : _} {first place : ℕ} {query : _} {answer : _} → first ≤ place → IsRead k item first place query answer → IsRead (sees_more k more) item first place query answer
  read-append {item = item} {first = first} {place = place} {query = query} {answer = answer} before r = record {
    asked = asks-append (omega (arith, before, r.told.0)) r.asked;
    told = Tells-append (base_of k.base) k.seen more (AskedAt k.number query place answer) r.told;
  }

  gives-append : (before : Progress) (piece : Piece) (after : Progress) → GivesPiece k before piece after → GivesPiece (sees_more k more) before piece after
  gives-append before piece after gives = record {
    within = omega (arith, gives.within, length-append k.seen more);
    count = gives.count;
    rows = gives.rows ∙ ap (λ (d : Database). take gives.count (rows_since (wanted_by before.following.ids) d before.following.cursor before.following.style)) (database-more k more piece.place gives.within);
    following = gives.following;
    left = gives.left;
  }

  pub runs-append : (pieces : List Piece) (before after : Progress) → FoldsTo (GivesPiece k) before pieces after → FoldsTo (GivesPiece (sees_more k more)) before pieces after
  runs-append [] before after runs = runs
  runs-append (p ∷ ps) before after runs = (runs.0, gives-append before p runs.0 runs.1, runs-append ps runs.0 after runs.2)

  pub ends-append : (after : Progress) (ending : Ending) → EndsBy k after ending → EndsBy (sees_more k more) after ending
  ends-append after (LastLine place pending) ends = record {
    within = omega (arith, ends.within, length-append k.seen more);
    counted = ends.counted ∙ ap (λ (d : Database). length (rows_since (wanted_by after.following.ids) d after.following.cursor after.following.style)) (database-more k more place ends.within);
    all = ends.all;
  }
  ends-append after (LookRefused why) ends = tt
  ends-append after RowsRefused ends = tt
  ends-append after WriteFailed ends = tt

  fed-append : {item : _} {place : ℕ} {pieces : List Piece} {ending : Ending} {text : List ℕ} → IsFed k item place pieces ending text → IsFed (sees_more k more) item place pieces ending text
  fed-append {place = place} {pieces = pieces} {ending = ending} f = record {
    changes = f.changes;
    asked = f.asked;
    goes_on = f.goes_on;
    within = omega (arith, f.within, length-append k.seen more);
    after = f.after;
    runs = subst (λ (d : Database). FoldsTo (GivesPiece (sees_more k more)) (feed_start d f.changes) pieces f.after) (database-more k more place f.within) (runs-append pieces (feed_start (database_at k place) f.changes) f.after f.runs);
    ends = ends-append f.after ending f.ends;
    said = f.said;
  }

  TellsAt-append : (turn : Turn) (low place : ℕ) (outcome : Outcome) (last : List ℕ) → NoneFalls low (places_spoken place outcome ++ last) → TellsAt k turn place outcome → TellsAt (sees_more k more) turn place outcome
  TellsAt-append turn low place Fixed last n t = t
  TellsAt-append turn low place (Wrote form entry) last n t = (written-append t.0, t.1, t.2)
  TellsAt-append turn low place (WroteUntold form entry) last n t = (written-append t.0, t.1, t.2)
  TellsAt-append turn low place (WroteUnsynced at form entry) last n t = (written-append t.0, t.1, t.2)
  TellsAt-append turn low place (Read first query answer) last n t = (read-append n.1.0 t.0, t.1)
  TellsAt-append turn low place (Fed pieces ending) last n t = (fed-append t.0, t.1, t.2)
  TellsAt-append turn low place Memory last n t = t
  TellsAt-append turn low place (Failed why) last n t = t

-- calls and a loss report nothing of a feed
pub runs-calls : (k : Known) (pushes : ℕ) (lost : Bool) (pieces : List Piece) (before after : Progress) → FoldsTo (GivesPiece k) before pieces after → FoldsTo (GivesPiece (with_calls k pushes lost)) before pieces after
runs-calls k pushes lost [] before after runs = runs
runs-calls k pushes lost (p ∷ ps) before after runs =
    let gives = runs.1 in
    (runs.0, record { within = gives.within; count = gives.count; rows = gives.rows; following = gives.following; left = gives.left }, runs-calls k pushes lost ps runs.0 after runs.2)

ends-calls : (k : Known) (pushes : ℕ) (lost : Bool) (after : Progress) (ending : Ending) → EndsBy k after ending → EndsBy (with_calls k pushes lost) after ending
ends-calls k pushes lost after (LastLine place pending) ends = record { within = ends.within; counted = ends.counted; all = ends.all }
ends-calls k pushes lost after (LookRefused why) ends = tt
ends-calls k pushes lost after RowsRefused ends = tt
ends-calls k pushes lost after WriteFailed ends = tt

-- calls and a loss report nothing of a turn
TellsAt-calls : (k : Known) (pushes : ℕ) (lost : Bool) (turn : Turn) (place : ℕ) (outcome : Outcome) → TellsAt k turn place outcome → TellsAt (with_calls k pushes lost) turn place outcome
TellsAt-calls k pushes lost turn place Fixed t = t
TellsAt-calls k pushes lost turn place (Wrote form entry) t = (record { asked = t.0.asked; own = t.0.own; told = t.0.told }, t.1, t.2)
TellsAt-calls k pushes lost turn place (WroteUntold form entry) t = (record { asked = t.0.asked; own = t.0.own; told = t.0.told }, t.1, t.2)
TellsAt-calls k pushes lost turn place (WroteUnsynced at form entry) t = (record { asked = t.0.asked; own = t.0.own; told = t.0.told }, t.1, t.2)
TellsAt-calls k pushes lost turn place (Read first query answer) t = (record { asked = asks-calls t.0.asked; told = t.0.told }, t.1)
  where
    asks-calls : AsksQuery k turn.item first place query → AsksQuery (with_calls k pushes lost) turn.item first place query
    asks-calls (inl asks) = inl asks
    asks-calls (inr asks) = inr (record { changes = asks.changes; asked = asks.asked; waits = asks.waits; query_is = asks.query_is })
TellsAt-calls k pushes lost turn place (Fed pieces ending) t = (record { changes = t.0.changes; asked = t.0.asked; goes_on = t.0.goes_on; within = t.0.within; after = t.0.after; runs = runs-calls k pushes lost pieces _ t.0.after t.0.runs; ends = ends-calls k pushes lost t.0.after ending t.0.ends; said = t.0.said }, t.1, t.2)
TellsAt-calls k pushes lost turn place Memory t = t
TellsAt-calls k pushes lost turn place (Failed why) t = t

-- a turn is determined by what is known later, of calls and of a loss too
told-later : (k : Known) (more : List Entry) (final : Known) → final ≡ with_calls (sees_more k more) final.pushes final.lost → (turn : Turn) (placed : Placed) (low : ℕ) (last : List ℕ)
    → NoneFalls low (places_spoken placed.place placed.outcome ++ last) → IsToldAt k turn placed → IsToldAt final turn placed
told-later k more final is turn placed low last falls told =
    subst (λ (q : Known). IsToldAt q turn placed) (sym is)
    (TellsAt-calls (sees_more k more) final.pushes final.lost turn placed.place placed.outcome (TellsAt-append k more turn low placed.place placed.outcome last falls told))

-- a turn in which nothing is said of a write that failed has the same outcome, whole or not
pub whole-or-not : (k : Known) (turn : Turn) (place : ℕ) (outcome : Outcome) (whole : Bool) → turn.whole ≡ true → TellsAt k turn place outcome → TellsAt k (record turn { whole = whole }) place outcome
whole-or-not k turn place Fixed whole is t = t
whole-or-not k turn place (Wrote form entry) whole is t = t
whole-or-not k turn place (WroteUntold form entry) whole is t = t
whole-or-not k turn place (WroteUnsynced at form entry) whole is t = t
whole-or-not k turn place (Read first query answer) whole is t = t
whole-or-not k turn place (Fed pieces (LastLine at pending)) whole is t = t
whole-or-not k turn place (Fed pieces (LookRefused why)) whole is t = t
whole-or-not k turn place (Fed pieces RowsRefused) whole is t = t
whole-or-not k turn place (Fed pieces WriteFailed) whole is t = absurd (cc (t.2, is))
whole-or-not k turn place Memory whole is t = t
whole-or-not k turn place (Failed why) whole is t = t

-- the connection closes where its item asks for that
tells-closes : (k : Known) (turn : Turn) (place : ℕ) (outcome : Outcome) → TellsAt k turn place outcome → IsTrue (closes_connection turn.item) → IsTrue turn.closes
tells-closes k turn place Fixed t asked = subst IsTrue (sym t.1) asked
tells-closes k turn place (Wrote form entry) t asked = subst IsTrue (sym t.2) asked
tells-closes k turn place (WroteUntold form entry) t asked = subst IsTrue (sym t.2) search
tells-closes k turn place (WroteUnsynced at form entry) t asked = subst IsTrue (sym t.2) asked
tells-closes k turn place (Read first query answer) t asked = read-closes t.1
  where
    read-closes : SaysAnswer turn.item turn.text turn.closes place query answer → IsTrue turn.closes
    read-closes (inl says) = subst IsTrue (sym says.1) asked
    read-closes (inr is) = subst IsTrue (sym is.closes_then) search
tells-closes k turn place (Fed pieces ending) t asked = subst IsTrue (sym t.1) search
tells-closes k turn place Memory t asked = subst IsTrue (sym t.1) search
tells-closes k turn place (Failed why) t asked = subst IsTrue (sym t.1) asked

module _ {S : Type 0} (goes : S → SessionCall → S → Type 0) (known : S → Known) (often : ℕ) where
  pub answers-closes : (old new : S) (turn : Turn) → Answers goes known often old turn new → IsTrue (closes_connection turn.item) → IsTrue turn.closes
  answers-closes old new turn answers asked = tells-closes (known new) turn answers.placed.place answers.placed.outcome answers.told asked

  pub answers-whole : (old new : S) (turn : Turn) (whole : Bool) → turn.whole ≡ true → Answers goes known often old turn new → Answers goes known often old (record turn { whole = whole }) new
  answers-whole old new turn whole is answers = record {
    placed = answers.placed;
    told = whole-or-not (known new) turn answers.placed.place answers.placed.outcome whole is answers.told;
    goes_by = answers.goes_by;
  }

  -- what is said of turns by what is known at their end
  pub record AreTold (old : S) (turns : List Turn) (final : S) : Type 0 where
    pub outcomes : List Placed
    pub more : List Entry
    pub told : AllZip (IsToldAt (known final)) turns outcomes
    pub extends : known final ≡ with_calls (sees_more (known old) more) (known final).pushes (known final).lost
    pub entries : of_session (known old).number more ≡ entries_written outcomes
    pub goes_by : GoesInTurn goes known often old turns outcomes final
    pub places : NoneFalls (length (known old).seen) (all_places outcomes ++ length (known final).seen ∷ [])

  pub are_told : (old : S) (turns : List Turn) (final : S) → FoldsTo (Answers goes known often) old turns final → AreTold old turns final
  are_told old [] final same = record {
    outcomes = [];
    more = [];
    told = tt;
    extends = subst (λ (s : S). known s ≡ with_calls (sees_more (known old) []) (known s).pushes (known s).lost) same (λ i. record (known old) { seen = sym (append-nil (known old).seen) i });
    entries = refl;
    goes_by = sym same;
    places = (omega (arith, ap (λ (s : S). length (known s).seen) same), tt);
  }
  are_told old (turn ∷ turns) final (new, answers, runs) =
      let rest = are_told new turns final runs in
      let placed = answers.placed in
      let sees = answers.goes_by.sees in
      let spoken = places_spoken placed.place placed.outcome in
      let k = known new in
      let number : k.number ≡ (known old).number = ap (λ (k : Known). k.number) sees.extends in
      let seen : k.seen ≡ (known old).seen ++ sees.more = ap (λ (k : Known). k.seen) sees.extends in
      record {
        outcomes = placed ∷ rest.outcomes;
        more = sees.more ++ rest.more;
        told = (told-later k rest.more (known final) rest.extends turn placed (length (known old).seen) (length k.seen ∷ []) sees.places answers.told, rest.told);
        extends = rest.extends
            ∙ ap (λ (q : Known). with_calls (sees_more q rest.more) (known final).pushes (known final).lost) sees.extends
            ∙ (λ i. with_calls (record (known old) { seen = append_assoc (known old).seen sees.more rest.more i }) (known final).pushes (known final).lost);
        entries = of_session-append (known old).number sees.more rest.more ∙ ap (λ (es : List Entry). es ++ of_session (known old).number rest.more) sees.entries ∙ ap (λ (n : ℕ). written placed.outcome ++ of_session n rest.more) (sym number) ∙ ap (λ (es : List Entry). written placed.outcome ++ es) rest.entries;
        goes_by = (new, answers.goes_by, rest.goes_by);
        places = subst (NoneFalls (length (known old).seen)) (sym (append_assoc spoken (all_places rest.outcomes) (length (known final).seen ∷ [])))
            (falls_on (length (known old).seen) (length k.seen) spoken _ sees.places rest.places);
      }

  -- ---- a session that is lent

  module _ {T N : Type 0} (session : T → S) (name : T → N) where
    -- by each turn it stays the same session, and goes from one state to another
    abbrev pub AnswersLent : T → Turn → T → Type 0
    AnswersLent old turn new = Answers goes known often (session old) turn (session new) × (name new ≡ name old)

    pub all_known : (old : T) (turns : List Turn) (final : T) → FoldsTo AnswersLent old turns final → FoldsTo (Answers goes known often) (session old) turns (session final)
    all_known old [] final same = ap session same
    all_known old (turn ∷ turns) final (new, answers, runs) = (session new, answers.0, all_known new turns final runs)

    -- and so it is by a service that answers so
    pub all_lent : {answers : T → Turn → T → Type 0} → ((old : T) (turn : Turn) (new : T) → answers old turn new → AnswersLent old turn new)
        → (old : T) (turns : List Turn) (final : T) → FoldsTo answers old turns final → FoldsTo AnswersLent old turns final
    all_lent lent old [] final same = same
    all_lent lent old (turn ∷ turns) final (new, answered, runs) = (new, lent old turn new answered, all_lent lent new turns final runs)

    pub same_name : (old : T) (turns : List Turn) (final : T) → FoldsTo AnswersLent old turns final → name final ≡ name old
    same_name old [] final same = sym (ap name same)
    same_name old (turn ∷ turns) final (new, answers, runs) = same_name new turns final runs ∙ answers.1

    pub served_by : {answers : T → Turn → T → Type 0} → ((old : T) (turn : Turn) (new : T) → answers old turn new → AnswersLent old turn new)
        → (before after : Streams) (old final : T) (ended : Ended) → Served answers before after old final ended → IsLegal (base_of (known (session final)).base) (known (session final)).seen
        → IsConnection goes known often before after (session old) (session final) ended
    served_by lent before after old final ended served legal =
        let turns = all_turns served.turns served.cut in
        let told = are_told (session old) turns (session final) (all_known old turns final (all_lent lent old turns final served.runs)) in
        record {
          read = served.read;
          served = served.turns;
          cut = served.cut;
          rest = served.rest;
          part = served.part;
          outcomes = told.outcomes;
          more = told.more;
          reads = served.reads;
          splits = served.splits;
          told = told.told;
          legal = legal;
          extends = told.extends;
          entries = told.entries;
          goes_by = told.goes_by;
          places = told.places;
          writes = served.writes;
          whole = served.whole;
          not_whole = served.not_whole;
          is_part = served.is_part;
          answered = served.answered;
          ends = served.ends;
          failed_reads = served.failed_reads;
          failed_writes = served.failed_writes;
        }
