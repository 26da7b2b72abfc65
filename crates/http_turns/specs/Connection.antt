-- What a connection is, determined by the history that its session has seen at the end.
use Rattle.std.specs.Prelude.{◌≡◌, ℕ, List, [], ◌∷◌, ◌++◌, length, Option, IfSome, IsFalse}
use Rattle.std.specs.List.{flat_map, AllZip}
use Rattle.std.specs.Io.KnownBytes.{Consumes, Appends}
use Rattle.http_framing.specs.Input.{Splits}
use Rattle.http_connection.specs.Turn.{Turn, AreWhole, all_turns, items_of, responses_of}
use Rattle.streams.specs.Streams.{Streams}
use Rattle.http_connection.specs.Served.{IsPartOf, EndsBy, CountsReads, CountsWrites}
use Rattle.http_connection.specs.declared.outcome.Ended.{Ended}
use Rattle.model.specs.Command.{Entry}
use Rattle.model.specs.History.{IsLegal, of_session, base_of}
use Rattle.model.specs.Told.{NoneFalls}
use Rattle.session_api.specs.SessionCall.{SessionCall}
use Rattle.session_api.specs.Known.{Known, sees_more, with_calls}
use Rattle.http_turns.specs.Outcome.{Placed, places_spoken, written}
use Rattle.http_turns.specs.ResponseText.{IsToldAt}
use Rattle.http_turns.specs.SessionTurn.{GoesBy}

-- all places that the responses speak of, in order
abbrev pub all_places : List Placed → List ℕ
all_places outcomes = flat_map (λ placed. places_spoken placed.place placed.outcome) outcomes

-- the entries that were written, in order
abbrev pub entries_written : List Placed → List Entry
entries_written outcomes = flat_map (λ placed. written placed.outcome) outcomes

-- by what a session does, what it knows, and how often a wait looks
module _ {S : Type 0} (goes : S → SessionCall → S → Type 0) (known : S → Known) (turns : ℕ) where
  -- what the session did and saw in each turn, up to its last state
  abbrev pub GoesInTurn : S → List Turn → List Placed → S → Type 0
  GoesInTurn old [] [] final = final ≡ old
  GoesInTurn old [] (placed ∷ outcomes) final = ⊥
  GoesInTurn old (turn ∷ rest) [] final = ⊥
  GoesInTurn old (turn ∷ rest) (placed ∷ outcomes) final = (new : S) × GoesBy goes known turns old turn.item placed new × GoesInTurn new rest outcomes final

  -- A connection of a session. What was read is the items of all turns and a rest, and what was written is their texts in
  -- order, with a part of the one that was cut.
  pub record IsConnection (before after : Streams) (old final : S) (ended : Ended) : Type 0 where
    pub read : List ℕ
    pub served : List Turn
    pub cut : Option Turn
    pub rest : List ℕ
    pub part : List ℕ
    pub outcomes : List Placed
    pub more : List Entry
    pub reads : Consumes before.left after.left read
    pub splits : Splits read (items_of (all_turns served cut)) rest
    -- each text is determined by the final history
    pub told : AllZip (IsToldAt (known final)) (all_turns served cut) outcomes
    pub legal : IsLegal (base_of (known final).base) (known final).seen
    pub extends : known final ≡ with_calls (sees_more (known old) more) (known final).pushes (known final).lost
    -- the session's new entries are those of the responses
    pub entries : of_session (known old).number more ≡ entries_written outcomes
    -- and in each turn it made the calls from which the outcome follows, and no other
    pub goes_by : GoesInTurn old (all_turns served cut) outcomes final
    -- the places never fall, from the old one up to the last
    pub places : NoneFalls (length (known old).seen) (all_places outcomes ++ length (known final).seen ∷ [])
    pub writes : Appends before.taken after.taken (responses_of served ++ part)
    pub whole : AreWhole served
    pub not_whole : IfSome cut (λ turn. IsFalse turn.whole)
    pub is_part : IsPartOf cut part
    pub answered : ended.answered ≡ length served
    pub ends : EndsBy ended.cause served cut rest after.left
    pub failed_reads : CountsReads ended.cause before.failed_reads after.failed_reads
    pub failed_writes : CountsWrites ended.cause before.failed_writes after.failed_writes
