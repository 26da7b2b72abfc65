-- The turn of a feed.
use Rattle.std.proofs.Common.{◌≡◌, ℕ, Bool, true, List, ◌++◌, ◌∷◌, length, Option, Ok, refl, ap, sym, subst}
use Rattle.std.specs.Prelude.{IfOk, IsTrue, Result, is_ok}
use Rattle.std.specs.List.{FoldsTo}
use Rattle.streams.specs.Writes.{Writes}
use Rattle.streams.specs.declared.traits.Failed.{Failed}
use Rattle.model.specs.Database.{Database}
use Rattle.model.specs.History.{now}
use Rattle.http_framing.specs.Request.{Request}
use Rattle.http_framing.specs.Input.{Requested}
use Rattle.http_request.specs.Decide.{decide}
use Rattle.http_request.specs.declared.asked.Asked.TheVariants as asked
use Rattle.http_request.specs.declared.changes.ChangesAsked.{ChangesAsked}
use Rattle.http_request.specs.declared.changes.Feed.TheVariants as feed
use Rattle.http_response.specs.Feed.{feed_head_text}
use Rattle.http_connection.specs.Turn.{Turn}
use Rattle.session_api.specs.Known.{Known, history_of}
use Rattle.session_api.specs.SessionCall.{SessionCall, Refreshed}
use Rattle.session_api.specs.Learns.{Makes}
use Rattle.http_turns.specs.Feed.{GivesPiece, feed_start}
use Rattle.http_turns.specs.Outcome.{Fed, Placed}
use Rattle.http_turns.specs.SessionTurn.{Answers}
use Rattle.http_turns.specs.Sent.{turn_of, SaysFault}
use Rattle.http_turns.specs.FeedWritten.{GoesOn, WritesTurn}
use Rattle.session_api.specs.declared.fault.CallFault.{CallFault}
use Rattle.session_api.specs.declared.fault.CallFault.TheVariants as fault
use Rattle.http_turns.specs.declared.response.Sent.{Sent}
use Rattle.http_turns.proofs.Feeds.{feed_runs}
use Rattle.session_api.proofs.Histories.{database_before, looks_length, looks_only, looks_then}
use Rattle.http_turns.proofs.Told.{answers-whole}
use Rattle.http_turns.proofs.Turns.{sees_none}

module _ {S : Type 0} (goes : S → SessionCall → S → Type 0) (known : S → Known) (turns : ℕ) where
  module _ (old here new : S) (looks : Makes goes known old (Refreshed (Ok tt)) here) (request : Request) (changes : ChangesAsked) (asks : decide request ≡ Ok (asked.Changes changes)) (goes_on : changes.feed ≡ feed.Continuous) (whole : Bool) (text : List ℕ) (g : GoesOn goes known turns here new (feed_start (now (history_of (known here))) changes) whole text) where
    abbrev said : List ℕ
    said = feed_head_text (length (known here).seen) ++ text

    abbrev feed_turn : Turn
    feed_turn = record { item = Requested request; text = said; closes = true; whole = whole }

    abbrev placed : Placed
    placed = record { place = length (known here).seen; outcome = Fed g.pieces g.ending; calls = Refreshed (Ok tt) ∷ g.calls }

    answers_fed : Answers goes known turns old feed_turn new
    answers_fed = record {
      placed = placed;
      told = (
        record {
          changes = changes;
          asked = asks;
          goes_on = goes_on;
          within = looks_length _ _ g.looks;
          after = g.after;
          runs = subst (λ (d : Database). FoldsTo (GivesPiece (known new)) (feed_start d changes) g.pieces g.after) (database_before (known here) (known new) g.looks) g.runs;
          ends = g.ends;
          said = ap (λ (t : List ℕ). feed_head_text (length (known here).seen) ++ t) g.said;
        },
        refl,
        g.may_be_whole,
      );
      goes_by = record {
        runs = (here, looks, feed_runs goes known turns _ g.pieces g.calls g.ending new g.gives);
        follows = (changes, asks, record { here = here; waits = g.calls; looks = looks; place_is = refl; gives = g.gives; calls_are = refl });
        sees = sees_none (known old) placed (known new) (looks_only (known old) (known new) (looks_then (known old) (known here) (known new) looks.learns.0 g.looks)) refl
            (looks_length _ _ looks.learns.0, g.places) tt;
      };
    }

    pub writes_fed : (result : Result Bool Failed) (taken taken' : Option (List ℕ)) → whole ≡ is_ok result → Writes taken taken' result said → IfOk result (λ c. c ≡ true)
        → WritesTurn goes known turns old new request result taken taken'
    writes_fed result taken taken' is_whole writes tells = record {
      turn = feed_turn;
      of_request = refl;
      answers = answers_fed;
      closes = λ _. search;
      writes = writes;
      whole = is_whole;
      tells = tells;
    }

  -- by a response that is at hand
  pub writes_sent : (old new : S) (request : Request) (sent : Sent) (result : Result Bool Failed) (taken taken' : Option (List ℕ))
      → Answers goes known turns old (turn_of (Requested request) sent) new → (IsTrue request.closes → IsTrue sent.closes)
      → Writes taken taken' result sent.response → IfOk result (λ c. c ≡ sent.closes) → WritesTurn goes known turns old new request result taken taken'
  writes_sent old new request sent result taken taken' answers closes writes tells = record {
    turn = record (turn_of (Requested request) sent) { whole = is_ok result };
    of_request = refl;
    answers = answers-whole goes known turns old new (turn_of (Requested request) sent) (is_ok result) refl answers;
    closes = closes;
    writes = writes;
    whole = refl;
    tells = tells;
  }

-- what says why there is no answer closes the connection where that is asked for
pub fault_closes : (place : ℕ) (closes : Bool) (why : CallFault) (sent : Sent) → SaysFault place closes why sent → IsTrue closes → IsTrue sent.closes
fault_closes place closes fault.Memory sent says asked = subst IsTrue (sym says.1) search
fault_closes place closes (fault.Unavailable why) sent says asked = subst IsTrue (sym says.1) asked
