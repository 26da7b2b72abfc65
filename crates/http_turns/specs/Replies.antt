-- How a request is answered.
use Rattle.std.specs.Prelude.{◌≡◌, ◌⊎◌, ℕ, ◌<◌, Bool, true, List, length, take, Option, Some, Ok, Err, Result}
use Rattle.std.specs.Io.KnownBytes.{Appends}
use Rattle.model.specs.Query.{Query, Answer, Document, Opened}
use Rattle.model.specs.Revision.{Rev}
use Rattle.streams.specs.declared.traits.Failed.{Failed}
use Rattle.http_framing.specs.Request.{Request}
use Rattle.http_framing.specs.Input.{Item, Requested}
use Rattle.http_request.specs.Decide.{decide}
use Rattle.http_request.specs.declared.asked.Asked.TheVariants as asked
use Rattle.http_request.specs.declared.changes.Feed.TheVariants as feed
use Rattle.http_response.specs.Measured.{HasLen, IsLong}
use Rattle.http_response.specs.Texts.{answer_text}
use Rattle.http_response.specs.declared.memory.MemoryFor.TheVariants as memory_for
use Rattle.http_connection.specs.Turn.{Turn}
use Rattle.session_api.specs.Known.{Known}
use Rattle.http_turns.specs.SessionTurn.{Answers}
use Rattle.session_api.specs.SessionCall.{SessionCall}
use Rattle.http_turns.specs.ResponseText.{after_closing}
use Rattle.http_turns.specs.Sent.{SendsDue, turn_of}
use Rattle.http_turns.specs.declared.response.Long.{Long}
use Rattle.http_turns.specs.declared.response.Reply.{Reply}
use Rattle.http_turns.specs.declared.response.Reply.TheVariants as reply

-- the turn of an item with a long answer, which is written whole
abbrev pub long_turn : {O : Type 0} → Item → Long O → Turn
long_turn item long = record { item = item; text = long.pieces; closes = long.closes; whole = true }

-- the turn of an item with a long answer that is cut after so many bytes, out of memory for the rest
abbrev pub cut_turn : {O : Type 0} → Item → Long O → ℕ → Turn
cut_turn item long n = record { item = item; text = take n long.pieces; closes = true; whole = true }

-- the long answer was written, and the connection closes where it says so; or a part of it, out of memory for the rest, and it
-- closes; or a part of it, where a write failed
abbrev pub SendsLong : {O : Type 0} → Option (List ℕ) → Option (List ℕ) → Result Bool Failed → Long O → Type 0
SendsLong old new (Ok closes) long =
    (Appends old new long.pieces × (closes ≡ long.closes))
    ⊎ ((n : ℕ) × (n < length long.pieces) × Appends old new (take n long.pieces) × (closes ≡ true))
SendsLong old new (Err failed) long = (n : ℕ) × (n < length long.pieces) × Appends old new (take n long.pieces)

-- the answer to the query has these revisions, and their text is long, with this length
pub record AnswersLongBy (query : Query) (answer : Answer) (opened : List (Result Document Rev)) (len : ℕ) : Type 0 where
  pub answer_is : answer ≡ Opened opened
  pub long : IsLong query (Opened opened)
  pub has_len : HasLen query (Opened opened) len

-- the response to a query with this answer, or out of memory; in pieces only where the answer is long
abbrev pub RepliesWith : {O : Type 0} → ℕ → Bool → Query → Answer → Reply O → Type 0
RepliesWith place closes query answer (reply.Sent sent) = SendsDue (answer_text place (after_closing closes) query answer) closes place memory_for.Call sent
RepliesWith place closes query answer (reply.Long long) =
    IsLong query answer × (Some long.pieces ≡ answer_text place (after_closing closes) query answer) × (long.closes ≡ closes)
RepliesWith place closes query answer (reply.Feed changes) = ⊥

module _ {S : Type 0} (goes : S → SessionCall → S → Type 0) (known : S → Known) (turns : ℕ) where
  -- the turn answers the request, whether the long answer is written whole or cut
  pub record AnswersLong {O : Type 0} (request : Request) (old : S) (long : Long O) (new : S) : Type 0 where
    pub whole : Answers goes known turns old (long_turn (Requested request) long) new
    pub cut : (n : ℕ) → n < length long.pieces → Answers goes known turns old (cut_turn (Requested request) long n) new

  -- by a response that is at hand, by one in pieces, or by a feed that is yet to be given
  abbrev pub Replies : {O : Type 0} → Request → S → Reply O → S → Type 0
  Replies request old (reply.Sent sent) new = Answers goes known turns old (turn_of (Requested request) sent) new
  Replies request old (reply.Long long) new = AnswersLong request old long new
  Replies request old (reply.Feed changes) new = (decide request ≡ Ok (asked.Changes changes)) × (changes.feed ≡ feed.Continuous) × (new ≡ old)
